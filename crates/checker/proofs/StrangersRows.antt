-- The search may exchange two strangers in a row: the bad rows stay bad.
use Rattle.std.proofs.Common.{◌≡◌, ℕ, List, [], ◌∷◌, length, map, Some, None, Option, sym, refl, ap, subst, ◌∙◌, arith}
use Rattle.message.specs.declared.Atom.{Atom}
use Rattle.message.specs.declared.Kind.{Kind}
use Rattle.message.specs.declared.Kind.TheVariants.{Agent, Nonce, Text}
use Rattle.message.specs.Message.{atom}
use Rattle.model.specs.Sheet.{Sheet}
use Rattle.model.specs.Sheet as model
use Rattle.scale.specs.Scales.{Scale}
use Rattle.search.specs.declared.place.Counts.{Counts}
use Rattle.search.specs.declared.place.Place.{Place}
use Rattle.search.specs.Exchange.{Invariant, Stranger, exchanged}
use Rattle.search.specs.Rows.{count}
use Rattle.sheet_laws.specs.References.{Referring}
use Rattle.checker.specs.Verdicts.{BadSeal, BadStep, number, numbers}
use Rattle.checker.specs.Rows.{filled}
use Rattle.checker.proofs.Filling.{kinds}
use Rattle.checker.proofs.Strangers.{Exchange, Strangers, atom_swapped, swapped_number, swapped_values}
use Rattle.checker.proofs.StrangersInstances.{bad_seal_swapped, bad_step_swapped}

number_atom : (k : Kind) (n : ℕ) → number (atom k n) ≡ n
number_atom Agent n = refl
number_atom Nonce n = refl
number_atom Text n = refl

-- A row that fits the slots is what it was.
pub numbers_filled : (slots : List (Option Kind)) (xs : List ℕ) → length xs ≡ length (kinds slots) → numbers (filled slots xs) ≡ xs
numbers_filled [] [] fit = refl
numbers_filled [] (x ∷ xs) fit = absurd (omega arith)
numbers_filled (None ∷ slots) xs fit = numbers_filled slots xs fit
numbers_filled (Some k ∷ slots) [] fit = absurd (omega arith)
numbers_filled (Some k ∷ slots) (x ∷ xs) fit =
    let rest : length xs ≡ length (kinds slots) = omega arith in
    λ i. number_atom k x i ∷ numbers_filled slots xs rest i

empty_filled : (e : Exchange) (slots : List (Option Kind)) → filled slots [] ≡ swapped_values e (filled slots [])
empty_filled e [] = refl
empty_filled e (None ∷ slots) = ap (λ os. None ∷ os) (empty_filled e slots)
empty_filled e (Some k ∷ slots) = ap (λ os. None ∷ os) (empty_filled e slots)

-- An exchanged row is the same values, exchanged.
pub filled_exchanged : (e : Exchange) (slots : List (Option Kind)) (places : List Place) (xs : List ℕ) → map (λ p. p.kind) places ≡ kinds slots → filled slots (exchanged e.kind e.one e.other places xs) ≡ swapped_values e (filled slots xs)
filled_exchanged e [] places xs fit = refl
filled_exchanged e (None ∷ slots) places xs fit = ap (λ os. None ∷ os) (filled_exchanged e slots places xs fit)
filled_exchanged e (Some k ∷ slots) [] xs fit = cc
filled_exchanged e (Some k ∷ slots) (p ∷ ps) [] fit = ap (λ os. None ∷ os) (empty_filled e slots)
filled_exchanged e (Some k ∷ slots) (p ∷ ps) (x ∷ xs) fit =
    let is : p.kind ≡ k = cc in
    let rest : map (λ (q : Place). q.kind) ps ≡ kinds slots = cc in
    let first = ap (λ j. atom k (swapped_number e j x)) is ∙ sym (atom_swapped e k x) in
    λ i. Some (first i) ∷ filled_exchanged e slots ps xs rest i

-- The counts are those of the sheet's names.
abbrev pub CountsNamed : Sheet → Counts → Type 0
CountsNamed sheet c = (k : Kind) → count c k ≡ model.named sheet k

strangers_in : (sheet : Sheet) (c : Counts) → CountsNamed sheet c → (k : Kind) (u w : ℕ) → Stranger c k u → Stranger c k w → Strangers sheet (record { kind = k; one = u; other = w })
strangers_in sheet c counts k u w su sw = record {
  one-low = omega (arith, counts k, su.low);
  one-high = su.high;
  other-low = omega (arith, counts k, sw.low);
  other-high = sw.high;
}

module _ (scale : Scale) (sheet : Sheet) (referring : Referring sheet) (c : Counts) (counts : CountsNamed sheet c) (slots : List (Option Kind)) (places : List Place) (fit : map (λ p. p.kind) places ≡ kinds slots) where
  -- Whatever the exchange of strangers keeps of values, it keeps of rows.
  rows_blind : (bad : List (Option Atom) → Type 0) → ((e : Exchange) → Strangers sheet e → (os : List (Option Atom)) → bad os → bad (swapped_values e os)) → Invariant c places (λ xs. bad (filled slots xs))
  rows_blind bad keeps = record {
    blind = λ k u w su sw xs al h.
        let e : Exchange = record { kind = k; one = u; other = w } in
        subst bad (sym (filled_exchanged e slots places xs fit)) (keeps e (strangers_in sheet c counts k u w su sw) (filled slots xs) h);
  }

  pub bad_seal_blind : (i : ℕ) → Invariant c places (λ xs. BadSeal scale sheet i (filled slots xs))
  bad_seal_blind i = rows_blind (BadSeal scale sheet i) (λ e strangers. bad_seal_swapped sheet e strangers scale referring i)

  pub bad_step_blind : (r k a : ℕ) → Invariant c places (λ xs. BadStep scale sheet r k a (filled slots xs))
  bad_step_blind r k a = rows_blind (BadStep scale sheet r k a) (λ e strangers. bad_step_swapped sheet e strangers scale referring r k a)
