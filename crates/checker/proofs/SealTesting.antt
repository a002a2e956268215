-- The test of a `seal` line tells no two strangers apart, and what the search finds by it are the least values for which the line is bad.
use Rattle.std.proofs.Common.{◌≡◌, ℕ, suc, ◌+◌, ◌≤◌, List, [], ◌∷◌, map, length, Some, None, Option, sym, refl, ap, subst, ◌∙◌, arith}
use Rattle.std.specs.Prelude.{Vec}
use Rattle.std.specs.declared.alloc.Global.{Global}
use Rattle.std.specs.List.{slice_get}
use Rattle.std.proofs.lemmas.Bool.{le-leb}
use Rattle.std.proofs.lemmas.Option.{none-some, same_Some}
use Rattle.message.specs.declared.Atom.{Atom}
use Rattle.message.specs.declared.Kind.{Kind}
use Rattle.model.specs.Sheet.{Ranked, Sheet, Variable}
use Rattle.model.specs.Trees.{Term}
use Rattle.scale.specs.Scales.{Scale}
use Rattle.search.specs.declared.place.Counts.{Counts}
use Rattle.search.specs.declared.place.Place.{Place}
use Rattle.search.specs.Exchange.{Invariant, exchanged}
use Rattle.search.specs.Rows.{Allowed, Breaking, Empty, Finds, Least, Less}
use Rattle.search.proofs.Exchanged.{allowed-exchanged}
use Rattle.sheet_laws.proofs.Counting.{in_range}
use Rattle.checker.specs.Narrowing.{WasRead}
use Rattle.checker.specs.Rows.{choice_at, counts, filled, fitted, open_choices, seal_slots}
use Rattle.checker.specs.Sealing.{LeastAt, RowUnlike}
use Rattle.checker.specs.Trying.{Unlike}
use Rattle.checker.specs.Verdicts.{BadSeal, EachStanding, numbers}
use Rattle.checker.proofs.Filling.{kinds}
use Rattle.checker.proofs.LeastRows.{refers}
use Rattle.checker.proofs.Placing.{AllowedIn, allowed_filling, allowed_in, allowed_length, count_named, in_allowed, kinds_at, open_kinds, row_standing, standing_row, standing_same}
use Rattle.checker.proofs.StrangersRows.{bad_seal_blind, numbers_filled}

slots_length : (t : Term) (i : ℕ) (vs : List Variable) → length (seal_slots t i vs) ≡ length vs
slots_length t i [] = refl
slots_length t i (v ∷ vs) = ap suc (slots_length t (i + 1) vs)

few_free : (sheet : Sheet) → WasRead sheet → length sheet.free ≤ 5
few_free sheet (text, is) = (in_range text sheet is).free

module _ (scale : Scale) (sheet : Sheet) (i : ℕ) (line : Ranked Term) (is-line : slice_get sheet.seals i ≡ Some line) where
  unlike_bad : (os : List (Option Atom)) → EachStanding line.what 0 sheet.free os → Unlike scale sheet i line os → BadSeal scale sheet i os
  unlike_bad os each u = record { line = line; is-line = is-line; each = each; under = u.under; content = u.content; is-seal = u.is-seal; first = u.first; key-positive = u.key-positive; unlike = u.unlike }

  bad_line : (os : List (Option Atom)) → BadSeal scale sheet i os → EachStanding line.what 0 sheet.free os × Unlike scale sheet i line os
  bad_line os bad =
      subst (λ (l : Ranked Term). EachStanding l.what 0 sheet.free os × Unlike scale sheet i l os) (same_Some bad.line line (sym bad.is-line ∙ is-line))
      (bad.each, record { under = bad.under; content = bad.content; is-seal = bad.is-seal; first = bad.first; key-positive = bad.key-positive; unlike = bad.unlike })

  module _ (read : WasRead sheet) (ps : List Place) (places : map choice_at ps ≡ open_choices sheet (seal_slots line.what 0 sheet.free)) where
    abbrev slots : List (Option Kind)
    slots = seal_slots line.what 0 sheet.free

    abbrev Broken : List ℕ → Type 0
    Broken xs = RowUnlike scale sheet i line slots xs

    row_in : (xs : List ℕ) → Allowed (counts sheet) ps xs → AllowedIn sheet (open_choices sheet slots) xs
    row_in xs h = allowed_in sheet ps (open_choices sheet slots) places xs h

    row_fitted : (xs : List ℕ) → Allowed (counts sheet) ps xs → fitted slots xs ≡ Some (filled slots xs)
    row_fitted xs h =
        let few : length slots ≤ 5 = omega (arith, slots_length line.what 0 sheet.free, few_free sheet read) in
        rw (le-leb _ 5 few) (allowed_filling sheet (open_choices sheet slots) slots xs (open_kinds sheet slots) (row_in xs h))

    row_bad : (xs : List ℕ) → Allowed (counts sheet) ps xs → Broken xs → BadSeal scale sheet i (filled slots xs)
    row_bad xs h b =
        let same : b.values ≡ filled slots xs = same_Some _ _ (sym b.is-values ∙ row_fitted xs h) in
        unlike_bad (filled slots xs) (row_standing sheet line.what 0 sheet.free xs (row_in xs h)) (subst (Unlike scale sheet i line) same b.unlike)

    bad_row : (xs : List ℕ) → Allowed (counts sheet) ps xs → BadSeal scale sheet i (filled slots xs) → Broken xs
    bad_row xs h bad = record { values = filled slots xs; is-values = row_fitted xs h; unlike = (bad_line (filled slots xs) bad).1 }

    kinds_fit : map (λ p. p.kind) ps ≡ kinds slots
    kinds_fit = kinds_at ps (open_choices sheet slots) places ∙ open_kinds sheet slots

    line_blind : Invariant (counts sheet) ps Broken
    line_blind = record {
      blind = λ k u w su sw xs h b.
          bad_row (exchanged k u w ps xs) (allowed-exchanged (counts sheet) k u w ps xs su sw h)
          ((bad_seal_blind scale sheet (refers sheet read) (counts sheet) (count_named sheet) slots ps kinds_fit i).blind k u w su sw xs h (row_bad xs h b));
    }

    bad_allowed : (os : List (Option Atom)) → BadSeal scale sheet i os → Allowed (counts sheet) ps (numbers os)
    bad_allowed os bad = in_allowed sheet ps (open_choices sheet slots) places (numbers os) (standing_row sheet line.what 0 sheet.free os (bad_line os bad).0)

    bad_breaking : (os : List (Option Atom)) → BadSeal scale sheet i os → Breaking (counts sheet) ps Broken (numbers os)
    bad_breaking os bad = (
      bad_allowed os bad,
      bad_row (numbers os) (bad_allowed os bad) (subst (BadSeal scale sheet i) (sym (standing_same sheet line.what 0 sheet.free os (bad_line os bad).0)) bad),
    )

    row_numbers : (xs : List ℕ) → Allowed (counts sheet) ps xs → numbers (filled slots xs) ≡ xs
    row_numbers xs h = numbers_filled slots xs (allowed_length sheet (open_choices sheet slots) (kinds slots) xs (open_kinds sheet slots) (row_in xs h))

    none_bad : Empty (Breaking (counts sheet) ps Broken) → (os : List (Option Atom)) → BadSeal scale sheet i os → ⊥
    none_bad none os bad = none.none (numbers os) (bad_breaking os bad)

    least_bad : (xs : List ℕ) → Least (Breaking (counts sheet) ps Broken) xs → LeastAt scale sheet i (filled slots xs)
    least_bad xs l = record {
      is = row_bad xs l.is.0 l.is.1;
      least = λ others bad less. l.least (numbers others) (bad_breaking others bad) (subst (Less (numbers others)) (row_numbers xs l.is.0) less);
    }

-- ---- the pieces of the test, as they are handed on

module _ (scale : Scale) (sheet : Sheet) (i : ℕ) (line : Ranked Term) (is-line : slice_get sheet.seals i ≡ Some line) (read : WasRead sheet) (handed : List (Option Kind)) (are-slots : handed ≡ seal_slots line.what 0 sheet.free)
    (named : Counts) (are-named : named ≡ counts sheet) (ps : List Place) (places : map choice_at ps ≡ open_choices sheet (seal_slots line.what 0 sheet.free)) where
  abbrev Unfit : List ℕ → Type 0
  Unfit row = RowUnlike scale sheet i line handed row

  abbrev Answers : Option (Vec ℕ Global) → Type 0
  Answers o = Finds (Breaking named ps Unfit) o

  suits : Invariant named ps Unfit
  suits = rw (are-slots, are-named) (line_blind scale sheet i line is-line read ps places)

  module _ (found : Option (Vec ℕ Global)) (all : Invariant named ps Unfit → Answers found) where
    pub none_found : found ≡ None → (os : List (Option Atom)) → BadSeal scale sheet i os → ⊥
    none_found is = none_bad scale sheet i line is-line read ps places (rw (are-slots, are-named) at (subst Answers is (all suits)))

    module _ (row : Vec ℕ Global) (is : found ≡ Some row) (lent : List ℕ) (same : lent ≡ row.items) where
      least_row : Least (Breaking named ps Unfit) lent
      least_row = subst (Least (Breaking named ps Unfit)) (sym same) (subst Answers is (all suits))

      filled_in : fitted handed lent ≡ Some (filled (seal_slots line.what 0 sheet.free) lent)
      filled_in = rw are-slots (row_fitted scale sheet i line is-line read ps places lent (rw are-named at least_row.is.0))

      pub some_filled : fitted handed lent ≡ None → ⊥
      some_filled none = none-some _ (sym none ∙ filled_in)

      pub some_found : (os kept : List (Option Atom)) → kept ≡ os → fitted handed lent ≡ Some os → LeastAt scale sheet i kept
      some_found os kept copied is-os =
          let whole : kept ≡ filled (seal_slots line.what 0 sheet.free) lent = copied ∙ same_Some _ _ (sym is-os ∙ filled_in) in
          subst (LeastAt scale sheet i) (sym whole) (least_bad scale sheet i line is-line read ps places lent (rw (are-slots, are-named) at least_row))
