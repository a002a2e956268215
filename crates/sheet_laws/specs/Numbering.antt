-- The lines of a text, by the numbers that are computed from the sheet it is.
use Rattle.std.specs.Prelude.{◌≡◌, ℕ, ◌-◌, ◌<◌, true, List, [], ◌∷◌, map, length, Some, Ok, codes, decimal}
use Rattle.std.specs.List.{slice_get}
use Rattle.lexer.specs.Text.{LineAt, is, is_only, lexed}
use Rattle.model.specs.LineNumbers.{back_line, know_line, rank_line, seal_line, section_lines}
use Rattle.model.specs.Sheet.{Sheet}
use Rattle.sheet.specs.Sheets.{reading}

-- The line of a number, counted from 1, is there and is so.
abbrev pub LineIs : List LineAt → ℕ → (LineAt → Type 0) → Type 0
LineIs ls n P = (l : LineAt) × (slice_get ls (n - 1) ≡ Some l) × P l

-- The lines of a sort, counted from 0 among their like, each begin with its word.
abbrev pub LinesBegin : List LineAt → (ℕ → ℕ) → ℕ → List ℕ → Type 0
LinesBegin ls number count w = (i : ℕ) → i < count → LineIs ls (number i) (λ l. is l 0 w ≡ true)

-- The lines of these numbers are the first of these words, each alone in its line.
abbrev pub LinesAre : List LineAt → List ℕ → List (List ℕ) → Type 0
LinesAre ls [] ws = Unit {0}
LinesAre ls (n ∷ ns) [] = ⊥
LinesAre ls (n ∷ ns) (w ∷ ws) = LineIs ls n (λ l. is_only l w ≡ true) × LinesAre ls ns ws

-- the section words, in the order of the sections
abbrev pub section_words : List (List ℕ)
section_words = codes "agents" ∷ codes "texts" ∷ codes "roles" ∷ codes "nonces" ∷ codes "known" ∷ codes "claim" ∷ codes "ranks" ∷ []

-- `back` and these numbers
abbrev pub SaysBack : List ℕ → LineAt → Type 0
SaysBack ns l = map (λ w. w.text) l.words ≡ codes "back" ∷ map decimal ns

-- Each part of the sheet stands in the line that is computed for it, and the last line is `back` with the seven section numbers.
pub record Numbered (ls : List LineAt) (m : Sheet) : Type 0 where
  pub sections : LinesAre ls (section_lines m) section_words
  pub know : LinesBegin ls (know_line m) (length m.known) (codes "know")
  pub rank : LinesBegin ls (rank_line m) (length m.atoms) (codes "rank")
  pub seal : LinesBegin ls (seal_line m) (length m.seals) (codes "seal")
  pub last : length ls ≡ back_line m
  pub back : LineIs ls (back_line m) (SaysBack (section_lines m))

-- The lines of a text that is read are so numbered.
abbrev pub LinesNumbered : Type 0
LinesNumbered = (text : List ℕ) (m : Sheet) → reading text ≡ Ok m → (ls : List LineAt) × (lexed text ≡ Ok ls) × Numbered ls m
