-- What is left of a text, said of its pieces and their places.
use Rattle.std.proofs.Common.{◌≡◌, ℕ, ◌+◌, cond, List, [], ◌∷◌, ◌++◌, map, length, Ok, Err, Result, refl, ap}
use Rattle.lexer.specs.declared.Rule.TheVariants.{Spacing}
use Rattle.lexer.specs.declared.Fault.{Fault}
use Rattle.lexer.specs.Text.{WordAt, LineAt, split, are_words, before, lines_at, placed}

abbrev pub texts : List WordAt → List (List ℕ)
texts = map (λ w. w.text)

pub texts_placed : (at : ℕ) (ps : List (List ℕ)) → texts (placed at ps) ≡ ps
texts_placed at [] = refl
texts_placed at (p ∷ ps) = ap (λ qs. p ∷ qs) (texts_placed (at + length p + 1) ps)

-- the lines of the pieces, or the first that is not words
abbrev pub lines_of_pieces : List WordAt → Result (List LineAt) Fault
lines_of_pieces [] = Ok []
lines_of_pieces (l ∷ ls) =
    cond (are_words (split 32 l.text))
    (before (record { place = l.place; text = l.text; words = placed l.place (split 32 l.text) }) (lines_of_pieces ls))
    (Err (record { rule = Spacing; place = l.place }))

pub lines_of_placed : (at : ℕ) (ps : List (List ℕ)) → lines_of_pieces (placed at ps) ≡ lines_at at ps
lines_of_placed at [] = refl
lines_of_placed at (p ∷ ps) = ap (λ ls. cond (are_words (split 32 p)) (before (record { place = at; text = p; words = placed at (split 32 p) }) ls) (Err (record { rule = Spacing; place = at }))) (lines_of_placed (at + length p + 1) ps)

-- the lines that are read, and those that come after them
abbrev pub after : List LineAt → Result (List LineAt) Fault → Result (List LineAt) Fault
after ls (Ok ms) = Ok (ls ++ ms)
after ls (Err e) = Err e
