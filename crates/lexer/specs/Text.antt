-- The lines and words of a sheet, with the places at which they begin.
use Rattle.std.specs.Prelude.{◌≡◌, ℕ, ◌+◌, ◌-◌, Bool, true, false, cond, ◌&&◌, List, [], ◌∷◌, map, length, take, Ok, Err, vec_items, Result, Vec, Option, Some, None, ◌==◌, nat_le, nat_lt, slice_index, slice_index_or}
use Rattle.std.specs.declared.alloc.Global.{Global}
use Rattle.lexer.specs.declared.Rule.{Rule}
use Rattle.lexer.specs.declared.Rule.TheVariants as rule
use Rattle.lexer.specs.declared.Rule.TheVariants.{Size, Spacing}
use Rattle.lexer.specs.declared.Row.{Row}
use Rattle.lexer.specs.declared.Row.TheVariants as row
use Rattle.std.specs.List.{list_all, slice_split}
use Rattle.std.specs.Str.{bytes_eq}
use Rattle.lexer.specs.declared.Fault.{Fault}
use Rattle.lexer.specs.declared.Declined.{Declined}
use Rattle.lexer.specs.declared.Declined.TheVariants as declined
use Rattle.lexer.specs.declared.Word.{Word}
use Rattle.lexer.specs.declared.Line.{Line}

-- a word and a line, by their places and bytes
pub record WordAt : Type 0 where
  pub place : ℕ
  pub text : List ℕ

pub record LineAt : Type 0 where
  pub place : ℕ
  pub text : List ℕ
  pub words : List WordAt

-- the word of a line at an index, where a missing one lies at the line; and whether it is there and has this text
abbrev pub word_at : LineAt → ℕ → WordAt
word_at l i = slice_index_or l.words i (record { place = l.place; text = [] })

abbrev pub is : LineAt → ℕ → List ℕ → Bool
is l i t = nat_lt i (length l.words) && bytes_eq (word_at l i).text t

abbrev pub is_only : LineAt → List ℕ → Bool
is_only l t = length l.words == 1 && is l 0 t

-- the number of a broken rule, and its row of the table
abbrev pub number_of : Rule → ℕ
number_of rule.Size = 1
number_of rule.Spacing = 2
number_of rule.Line = 3
number_of rule.Count = 4
number_of rule.NewName = 5
number_of rule.Word = 6
number_of rule.Length = 7
number_of rule.Variable = 8
number_of rule.Value = 9
number_of rule.Twice = 10
number_of rule.Back = 11

abbrev pub row_of : Rule → Row
row_of rule.Size = row.Bytes
row_of rule.Spacing = row.Bytes
row_of rule.Line = row.Lines
row_of rule.Count = row.Lines
row_of rule.NewName = row.Words
row_of rule.Word = row.Words
row_of rule.Length = row.Terms
row_of rule.Variable = row.Terms
row_of rule.Value = row.Sheet
row_of rule.Twice = row.Sheet
row_of rule.Back = row.Sheet

-- the pieces of a text between separators, one more than there are separators
abbrev pub split : ℕ → List ℕ → List (List ℕ)
split s = slice_split (λ b. b == s)

-- a visible byte, and a word: one such byte or more
abbrev pub glyph : ℕ → Bool
glyph b = nat_le 33 b && nat_le b 126

abbrev pub glyphs : List ℕ → Bool
glyphs = list_all glyph

abbrev pub is_word : List ℕ → Bool
is_word w = nat_le 1 (length w) && glyphs w

abbrev pub are_words : List (List ℕ) → Bool
are_words = list_all is_word

-- pieces with their places, where the first begins at `at` and one separator stands between two
abbrev pub placed : ℕ → List (List ℕ) → List WordAt
placed at [] = []
placed at (w ∷ ws) = record { place = at; text = w } ∷ placed (at + length w + 1) ws

-- the lines from `at` on: each is words that are parted by one space, or the first that is not is the fault
abbrev pub before : LineAt → Result (List LineAt) Fault → Result (List LineAt) Fault
before l (Ok ls) = Ok (l ∷ ls)
before l (Err e) = Err e

abbrev pub lines_at : ℕ → List (List ℕ) → Result (List LineAt) Fault
lines_at at [] = Ok []
lines_at at (l ∷ ls) =
    cond (are_words (split 32 l))
    (before (record { place = at; text = l; words = placed at (split 32 l) }) (lines_at (at + length l + 1) ls))
    (Err (record { rule = Spacing; place = at }))

-- a text has 1 to 8192 bytes, the last of them LF
abbrev pub sized : List ℕ → Bool
sized text = nat_le 1 (length text) && nat_le (length text) 8192 && slice_index text (length text - 1) == 10

-- such a text without its last byte
abbrev pub body_of : List ℕ → Option (List ℕ)
body_of text = cond (sized text) (Some (take (length text - 1) text)) None

abbrev pub lexed : List ℕ → Result (List LineAt) Fault
lexed text = cond (sized text) (lines_at 0 (split 10 (take (length text - 1) text))) (Err (record { rule = Size; place = 0 }))

-- what the code's words and lines stand for
abbrev pub word_of : Word → WordAt
word_of w = record { place = w.place; text = w.text.now }

abbrev pub words_of : List Word → List WordAt
words_of ws = map word_of ws

abbrev pub line_of : Line → LineAt
line_of l = record { place = l.place; text = l.text.now; words = words_of (vec_items l.words) }

abbrev pub lines_of : List Line → List LineAt
lines_of ls = map line_of ls

-- what came of a line at a place, and of the whole text; want of memory may come at any time
abbrev pub Words : ℕ → List ℕ → Result (Vec Word Global) Declined → Type 0
Words at l (Ok ws) = (are_words (split 32 l) ≡ true) × (words_of (vec_items ws) ≡ placed at (split 32 l))
Words at l (Err (declined.Fault f)) = (are_words (split 32 l) ≡ false) × (f ≡ record { rule = Spacing; place = at })
Words at l (Err declined.Memory) = Unit {0}

abbrev pub Lexes : List ℕ → Result (Vec Line Global) Declined → Type 0
Lexes text (Ok ls) = lexed text ≡ Ok (map line_of (vec_items ls))
Lexes text (Err (declined.Fault f)) = lexed text ≡ Err f
Lexes text (Err declined.Memory) = Unit {0}
