-- Where the second condition fails, there is a bad `seal` line, and the other way round.
use Rattle.std.proofs.Common.{◌≡◌, ℕ, zero, suc, ◌+◌, ◌<◌, Bool, true, false, cond, List, [], ◌∷◌, Some, None, Option, inl, inr, sym, refl, ap, subst, ◌∙◌, arith}
use Rattle.std.specs.Prelude.{MatchBool, slice_index_or}
use Rattle.std.specs.List.{slice_get}
use Rattle.std.proofs.lemmas.Option.{none-some, same_Some}
use Rattle.message.specs.declared.Atom.{Atom}
use Rattle.message.specs.declared.Kind.{Kind}
use Rattle.message.specs.declared.Kind.TheVariants as kind
use Rattle.message.specs.Message.{atom, size}
use Rattle.model.specs.Sheet.{Ranked, Sheet, Variable}
use Rattle.model.specs.Trees.{Term}
use Rattle.model.specs.Variables.{stands_in}
use Rattle.instances.specs.Instances.{Of}
use Rattle.instances.specs.Substitution.{message}
use Rattle.scale.specs.Scales.{Scale}
use Rattle.ranks.specs.Conditions.{SealsAgree}
use Rattle.ranks.specs.Ranks.{EachOf, free_values, kind_of}
use Rattle.checker.specs.Rows.{seal_slots}
use Rattle.checker.specs.Verdicts.{BadSeal, EachStanding, LeastSeal}
use Rattle.checker.proofs.Deciding.{iff_decided, positive_decided, stable, true_decided}
use Rattle.checker.proofs.Slots.{Fills, fills_order}
use Rattle.checker.proofs.Standing.{message_same}

-- ---- values of the variables that stand there, and of all

-- without those that do not stand there
abbrev only : Term → ℕ → List (Option Atom) → List (Option Atom)
only t i [] = []
only t i (o ∷ os) = cond (stands_in i t) o None ∷ only t (i + 1) os

only-standing : (t : Term) (i : ℕ) (vs : List Variable) (os : List (Option Atom)) → EachOf vs os → EachStanding t i vs (only t i os)
only-standing t i [] [] e = tt
only-standing t i [] (o ∷ os) e = absurd e
only-standing t i (v ∷ vs) [] e = absurd e
only-standing t i (v ∷ vs) (o ∷ os) e = (head (stands_in i t), only-standing t (i + 1) vs os e.1)
  where
    head : (b : Bool) → MatchBool b ((x : Atom) × (cond b o None ≡ Some x) × Of (kind_of v.sort) x) (cond b o None ≡ None)
    head true = e.0
    head false = refl

only-at : (t : Term) (i j n : ℕ) (os : List (Option Atom)) → n ≡ i + j → stands_in n t ≡ true → slice_index_or (only t i os) j None ≡ slice_index_or os j None
only-at t i j n [] is stands = refl
only-at t i zero n (o ∷ os) is stands = let e : i ≡ n = omega arith in ap (λ (b : Bool). cond b o None) (ap (λ (k : ℕ). stands_in k t) e ∙ stands)
only-at t i (suc j) n (o ∷ os) is stands = only-at t (i + 1) j n os (omega arith) stands

-- with the atom of number 0 for those that do not stand there
abbrev full : List Variable → List (Option Atom) → List (Option Atom)
full [] os = []
full (v ∷ vs) [] = []
full (v ∷ vs) (None ∷ os) = Some (atom (kind_of v.sort) 0) ∷ full vs os
full (v ∷ vs) (Some x ∷ os) = Some x ∷ full vs os

some-of : (k : Kind) → 0 < size k
some-of kind.Agent = omega arith
some-of kind.Nonce = omega arith
some-of kind.Text = omega arith

full-each : (t : Term) (i : ℕ) (vs : List Variable) (os : List (Option Atom)) → EachStanding t i vs os → EachOf vs (full vs os)
full-each t i [] [] e = tt
full-each t i [] (o ∷ os) e = absurd e
full-each t i (v ∷ vs) [] e = absurd e
full-each t i (v ∷ vs) (None ∷ os) e = ((atom (kind_of v.sort) 0, refl, (0, some-of (kind_of v.sort), refl)), full-each t (i + 1) vs os e.1)
full-each t i (v ∷ vs) (Some x ∷ os) e = (head (stands_in i t) e.0, full-each t (i + 1) vs os e.1)
  where
    head : (b : Bool) → MatchBool b ((y : Atom) × (Some x ≡ Some y) × Of (kind_of v.sort) y) (Some x ≡ None) → (y : Atom) × (Some x ≡ Some y) × Of (kind_of v.sort) y
    head true h = h
    head false h = absurd (none-some x (sym h))

full-at : (t : Term) (i j n : ℕ) (vs : List Variable) (os : List (Option Atom)) → EachStanding t i vs os → n ≡ i + j → stands_in n t ≡ true
    → slice_index_or (full vs os) j None ≡ slice_index_or os j None
full-at t i j n [] [] e is stands = refl
full-at t i j n [] (o ∷ os) e is stands = absurd e
full-at t i j n (v ∷ vs) [] e is stands = absurd e
full-at t i zero n (v ∷ vs) (None ∷ os) e is stands = let k : i ≡ n = omega arith in absurd (missing (stands_in i t) (ap (λ (m : ℕ). stands_in m t) k ∙ stands) e.0)
  where
    missing : (b : Bool) → b ≡ true → MatchBool b ((y : Atom) × (None ≡ Some y) × Of (kind_of v.sort) y) (◌≡◌ {A = Option Atom} None None) → ⊥
    missing true b h = none-some h.0 h.1
    missing false b h = let z : false ≡ true = b in cc
full-at t i zero n (v ∷ vs) (Some x ∷ os) e is stands = refl
full-at t i (suc j) n (v ∷ vs) (None ∷ os) e is stands = full-at t (i + 1) j n vs os e.1 (omega arith) stands
full-at t i (suc j) n (v ∷ vs) (Some x ∷ os) e is stands = full-at t (i + 1) j n vs os e.1 (omega arith) stands

only-message : (t : Term) (os : List (Option Atom)) → message (free_values (only t 0 os)) t ≡ message (free_values os) t
only-message t os = message_same (free_values (only t 0 os)) (free_values os) t (record { player = refl; variables = λ i stands. only-at t 0 i i os (omega arith) stands })

full-message : (t : Term) (vs : List Variable) (os : List (Option Atom)) → EachStanding t 0 vs os → message (free_values (full vs os)) t ≡ message (free_values os) t
full-message t vs os e = message_same (free_values (full vs os)) (free_values os) t (record { player = refl; variables = λ i stands. full-at t 0 i i vs os e (omega arith) stands })

-- ---- the second condition

module _ (scale : Scale) (sheet : Sheet) where
  -- Under the second condition no `seal` line is bad.
  pub agree_none : SealsAgree scale sheet → (i : ℕ) (values : List (Option Atom)) → BadSeal scale sheet i values → ⊥
  agree_none agree i values bad =
      let t : Term = bad.line.what in
      bad.unlike
      (agree i bad.line bad.is-line (full sheet.free values) (full-each t 0 sheet.free values bad.each) bad.under bad.content (full-message t sheet.free values bad.each ∙ bad.is-seal) bad.first bad.key-positive)

  -- Where no `seal` line is bad the second condition holds.
  pub none_agree : ((i : ℕ) (values : List (Option Atom)) → BadSeal scale sheet i values → ⊥) → SealsAgree scale sheet
  none_agree none i l is vars each k m e first positive =
      stable (iff_decided (true_decided (scale.above l.rank)) (positive_decided scale sheet m))
      (λ unlike. none i (only l.what 0 vars) (record {
        line = l;
        is-line = is;
        each = only-standing l.what 0 sheet.free vars each;
        under = k;
        content = m;
        is-seal = only-message l.what vars ∙ e;
        first = first;
        key-positive = positive;
        unlike = unlike;
      }))

-- ---- the order of the values

pub standing_fills : (t : Term) (i : ℕ) (vs : List Variable) (os : List (Option Atom)) → EachStanding t i vs os → Fills (seal_slots t i vs) os
standing_fills t i [] [] e = tt
standing_fills t i [] (o ∷ os) e = absurd e
standing_fills t i (v ∷ vs) [] e = absurd e
standing_fills t i (v ∷ vs) (o ∷ os) e = head (stands_in i t) e.0 (standing_fills t (i + 1) vs os e.1)
  where
    head : (b : Bool) → MatchBool b ((x : Atom) × (o ≡ Some x) × Of (kind_of v.sort) x) (o ≡ None) → Fills (seal_slots t (i + 1) vs) os → Fills (cond b (Some (kind_of v.sort)) None ∷ seal_slots t (i + 1) vs) (o ∷ os)
    head true h rest = (h, rest)
    head false h rest = (h, rest)

pub fills_standing : (t : Term) (i : ℕ) (vs : List Variable) (os : List (Option Atom)) → Fills (seal_slots t i vs) os → EachStanding t i vs os
fills_standing t i [] [] f = tt
fills_standing t i [] (o ∷ os) f = absurd f
fills_standing t i (v ∷ vs) [] f = absurd f
fills_standing t i (v ∷ vs) (o ∷ os) f = let h = head (stands_in i t) f in (h.0, fills_standing t (i + 1) vs os h.1)
  where
    head : (b : Bool) → Fills (cond b (Some (kind_of v.sort)) None ∷ seal_slots t (i + 1) vs) (o ∷ os) → MatchBool b ((x : Atom) × (o ≡ Some x) × Of (kind_of v.sort) x) (o ≡ None) × Fills (seal_slots t (i + 1) vs) os
    head true h = h
    head false h = h

module _ (scale : Scale) (sheet : Sheet) where
  pub bad_fills : (i : ℕ) (l : Ranked Term) → slice_get sheet.seals i ≡ Some l → (values : List (Option Atom)) → BadSeal scale sheet i values → Fills (seal_slots l.what 0 sheet.free) values
  bad_fills i l is values bad =
      subst (λ (k : Ranked Term). Fills (seal_slots k.what 0 sheet.free) values) (same_Some bad.line l (sym bad.is-line ∙ is)) (standing_fills bad.line.what 0 sheet.free values bad.each)

  -- Of a line there is one least bad row of values.
  pub one_least_seal : (i : ℕ) (xs ys : List (Option Atom)) → LeastSeal scale sheet i xs → LeastSeal scale sheet i ys → xs ≡ ys
  one_least_seal i xs ys f g =
      elim (fills_order (seal_slots f.is.line.what 0 sheet.free) xs ys (bad_fills i f.is.line f.is.is-line xs f.is) (bad_fills i f.is.line f.is.is-line ys g.is)) [
        | inl e ↦ e
        | inr (inl l) ↦ absurd (g.least xs f.is l)
        | inr (inr l) ↦ absurd (f.least ys g.is l)
      ]
