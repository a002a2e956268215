-- The lines of a text and their words lie in it or at its end, and so does the fault of a text that has none.
use Rattle.std.proofs.Common.{◌≡◌, ℕ, suc, ◌+◌, ◌-◌, ◌≤◌, Bool, true, false, cond, eqb, List, [], ◌∷◌, length, take, Result, refl, arith, length-take}
use Rattle.std.specs.List.{AllByRecursion, onto_first}
use Rattle.lexer.specs.declared.Fault.{Fault}
use Rattle.lexer.specs.Text.{LineAt, WordAt, before, lexed, lines_at, placed, split}
use Rattle.sheet_laws.proofs.PlacesWithin.{Within, gives, faults, either}

-- a word, and a line with all its words, that begin within n bytes or at their end
abbrev pub WordWithin : ℕ → WordAt → Type 0
WordWithin n w = w.place ≤ n

pub record LineWithin (n : ℕ) (l : LineAt) : Type 0 where
  pub begins : l.place ≤ n
  pub words : AllByRecursion (WordWithin n) l.words

-- how many bytes pieces take, each with a separator after it
abbrev span : List (List ℕ) → ℕ
span [] = 0
span (p ∷ ps) = length p + 1 + span ps

-- one byte more
span-onto : (b : ℕ) (ps : List (List ℕ)) → 1 ≤ span ps → span (onto_first b ps) ≡ span ps + 1
span-onto b [] h = absurd (omega arith)
span-onto b (p ∷ ps) h = omega arith

-- the pieces of a text take its bytes, and a separator at the end
span-split : (s : ℕ) (xs : List ℕ) → span (split s xs) ≡ length xs + 1
span-split s [] = refl
span-split s (b ∷ bs) = by (eqb b s) (span-split s bs)
  where
    by : (t : Bool) → span (split s bs) ≡ length bs + 1 → span (cond t ([] ∷ split s bs) (onto_first b (split s bs))) ≡ length (b ∷ bs) + 1
    by true e = omega arith
    by false e = omega (arith, span-onto b (split s bs) (omega arith))

-- placed pieces begin before the end of the last
placed-within : {n : ℕ} (at : ℕ) (ps : List (List ℕ)) → at + span ps ≤ suc n → AllByRecursion (WordWithin n) (placed at ps)
placed-within at [] h = tt
placed-within at (p ∷ ps) h = (omega arith, placed-within (at + length p + 1) ps (omega arith))

-- a line before others
line_before : {n : ℕ} {l : LineAt} {r : Result (List LineAt) Fault} → LineWithin n l → Within n (AllByRecursion (LineWithin n)) r → Within n (AllByRecursion (LineWithin n)) (before l r)
line_before h (gives hs) = gives (h, hs)
line_before h (faults f) = faults f

-- pieces that are read as lines
lines-within : {n : ℕ} (at : ℕ) (ps : List (List ℕ)) → at + span ps ≤ suc n → Within n (AllByRecursion (LineWithin n)) (lines_at at ps)
lines-within at [] h = gives tt
lines-within {n} at (p ∷ ps) h =
    let begins : at ≤ n = omega arith in
    either _ (line_before (record { begins = begins; words = placed-within at (split 32 p) (omega (arith, span-split 32 p)) }) (lines-within (at + length p + 1) ps (omega arith))) (faults begins)

-- the lines of a text
pub lexed-within : (text : List ℕ) → Within (length text) (AllByRecursion (LineWithin (length text))) (lexed text)
lexed-within text =
    either _ (lines-within 0 (split 10 (take (length text - 1) text)) (omega (arith, span-split 10 (take (length text - 1) text), length-take (length text - 1) text))) (faults (omega arith))
