-- The line of a number, when one line more is read; and what the last line says.
use Rattle.std.proofs.Common.{◌≡◌, ℕ, zero, suc, ◌+◌, ◌-◌, true, eqb, ltb, List, [], ◌∷◌, ◌++◌, map, length, drop, Some, codes, decimal, refl, ap, ◌∙◌, add-one, arith, drop-cons, below_more}
use Rattle.std.proofs.lemmas.Slice.Eq.{bytes_eq-Decides}
use Rattle.std.proofs.lemmas.List.{drop_all}
use Rattle.std.proofs.lemmas.Bool.{and_parts, ltb-true}
use Rattle.std.proofs.lemmas.Bool.Decides.{nat_tests}
use Rattle.std.specs.List.{slice_get}
use Rattle.std.specs.Str.{bytes_eq}
use Rattle.lexer.specs.Text.{LineAt, is, is_only, word_at}
use Rattle.draft.specs.Drafts.{Draft}
use Rattle.draft.specs.Reading.{back_line, says_all}
use Rattle.terms.specs.Usages.{check_usages}
use Rattle.sheet_laws.specs.Numbering.{LineIs, LinesAre, LinesBegin, SaysBack}
use Rattle.sheet_laws.proofs.Passing.{Gives, next, passed, value}

-- ---- the line of a number

-- what is there stays when one more comes
nth-stays : {X : Type 0} (xs : List X) (i : ℕ) (x y : X) → slice_get xs i ≡ Some x → slice_get (xs ++ (y ∷ [])) i ≡ Some x
nth-stays [] i x y e = grind arith
nth-stays (z ∷ xs) zero x y e = e
nth-stays (z ∷ xs) (suc i) x y e = nth-stays xs i x y e

-- the one that comes is the last
nth-comes : {X : Type 0} (xs : List X) (y : X) → slice_get (xs ++ (y ∷ [])) (length xs) ≡ Some y
nth-comes [] y = refl
nth-comes (z ∷ xs) y = nth-comes xs y

module _ (ls : List LineAt) (l : LineAt) where
  -- a line that is so stays, and the line that comes is so
  line_stays : (n : ℕ) (P : LineAt → Type 0) → LineIs ls n P → LineIs (ls ++ (l ∷ [])) n P
  line_stays n P (x, e, p) = (x, nth-stays ls (n - 1) x l e, p)

  pub line-comes : (n : ℕ) (P : LineAt → Type 0) → n ≡ length ls + 1 → P l → LineIs (ls ++ (l ∷ [])) n P
  line-comes n P e p = let k : n - 1 ≡ length ls = omega arith in (l, rw k (nth-comes ls l), p)

  -- lines of a sort stay, and one more comes
  pub begin-stay : (number : ℕ → ℕ) (count : ℕ) (w : List ℕ) → LinesBegin ls number count w → LinesBegin (ls ++ (l ∷ [])) number count w
  begin-stay number count w h i below = line_stays (number i) _ (h i below)

  pub begin-more : (number : ℕ → ℕ) (count : ℕ) (w : List ℕ) → LinesBegin ls number count w → number count ≡ length ls + 1 → is l 0 w ≡ true → LinesBegin (ls ++ (l ∷ [])) number (count + 1) w
  begin-more number count w h e t = below_more (λ i. LineIs (ls ++ (l ∷ [])) (number i) (λ l. is l 0 w ≡ true)) count (begin-stay number count w h) (line-comes (number count) _ e t)

  -- section words stay, and one more comes
  pub are-stay : (ns : List ℕ) (ws : List (List ℕ)) → LinesAre ls ns ws → LinesAre (ls ++ (l ∷ [])) ns ws
  are-stay [] ws h = tt
  are-stay (n ∷ ns) [] h = h
  are-stay (n ∷ ns) (w ∷ ws) h = (line_stays n _ h.0, are-stay ns ws h.1)

  pub are-more : (ns : List ℕ) (ws : List (List ℕ)) (w : List ℕ) → LinesAre ls ns ws → slice_get ws (length ns) ≡ Some w → is_only l w ≡ true → LinesAre (ls ++ (l ∷ [])) (ns ++ ((length ls + 1) ∷ [])) ws
  are-more [] [] w h e t = grind arith
  are-more [] (v ∷ ws) w h e t = let same : v ≡ w = cc in (line-comes (length ls + 1) _ refl (rw same t), tt)
  are-more (n ∷ ns) [] w h e t = h
  are-more (n ∷ ns) (v ∷ ws) w h e t = (line_stays n _ h.0, are-more ns ws w h.1 e t)

-- ---- the last line

module _ (l : LineAt) where
  -- the line's words from an index on
  abbrev words_from : ℕ → List (List ℕ)
  words_from i = map (λ w. w.text) (drop i l.words)

  -- this word is the first of them
  first-is : (i : ℕ) (t : List ℕ) → is l i t ≡ true → words_from i ≡ t ∷ words_from (i + 1)
  first-is i t h =
      let p = and_parts (ltb i (length l.words)) (bytes_eq (word_at l i).text t) h in
      let within = ltb-true i (length l.words) p.0 in
      let same = (bytes_eq-Decides (word_at l i).text t).0 p.1 in
      rw (drop-cons l.words i (record { place = l.place; text = [] }) within, same, add-one)

  -- these numbers are all of them
  all_are : (i : ℕ) (ns : List ℕ) → says_all l i ns ≡ true → length l.words ≡ i + length ns → words_from i ≡ map decimal ns
  all_are i [] h e = rw (drop_all i l.words (omega arith))
  all_are i (n ∷ ns) h e =
      let p = and_parts (is l i (decimal n)) (says_all l (i + 1) ns) h in
      first-is i (decimal n) p.0 ∙ ap (λ ws. decimal n ∷ ws) (all_are (i + 1) ns p.1 (omega arith))

  -- the line is `back` and the section numbers of the draft
  pub back-line : (d : Draft) → is l 0 (codes "back") ≡ true → length d.sections ≡ 7 → Gives (λ _. SaysBack d.sections l) (back_line d l)
  back-line d w seven =
      passed (eqb (length l.words) 8) _ _ (λ eight.
      next (check_usages d.table.free d.table.usages) _ (λ _ _.
      passed (says_all l 1 d.sections) _ _ (λ all.
      value (first-is 0 (codes "back") w ∙ ap (λ ws. codes "back" ∷ ws) (all_are 1 d.sections all (grind (arith, nat_tests)))))))
