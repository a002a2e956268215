-- Values in slots, each of which is for an atom of one kind or stays empty: their numbers tell them apart, and the least of them.
use Rattle.std.proofs.Common.{◌≡◌, ℕ, ◌<◌, ◌⊎◌, List, [], ◌∷◌, Some, None, Option, inl, inr, sym, refl, ap, subst, ◌∙◌}
use Rattle.std.proofs.lemmas.Bool.{cases_order}
use Rattle.std.proofs.lemmas.Option.{none-some, same_Some}
use Rattle.message.specs.declared.Atom.{Atom}
use Rattle.message.specs.declared.Kind.{Kind}
use Rattle.message.specs.declared.Kind.TheVariants as kind
use Rattle.message.specs.Message.{atom, size}
use Rattle.instances.specs.Instances.{Of}
use Rattle.search.specs.Rows.{Less}
use Rattle.checker.specs.Verdicts.{FirstOf, number, numbers}
use Rattle.checker.proofs.Deciding.{below_decided, both_decided, first_or_none}

-- In each slot that is for a kind stands an atom of it, and in the others nothing.
abbrev pub Fills : List (Option Kind) → List (Option Atom) → Type 0
Fills [] [] = Unit {0}
Fills [] (o ∷ os) = ⊥
Fills (s ∷ ss) [] = ⊥
Fills (None ∷ ss) (o ∷ os) = (o ≡ None) × Fills ss os
Fills (Some k ∷ ss) (o ∷ os) = ((x : Atom) × (o ≡ Some x) × Of k x) × Fills ss os

pub number_atom : (k : Kind) (n : ℕ) → number (atom k n) ≡ n
number_atom kind.Agent n = refl
number_atom kind.Nonce n = refl
number_atom kind.Text n = refl

-- an atom of a kind by its number
of-kind : (k : Kind) (x y : Atom) → Some x ≡ Some y → Of k y → x ≡ atom k (number x)
of-kind k x y e o =
    let is : x ≡ atom k o.0 = same_Some x y e ∙ o.2 in
    is ∙ ap (atom k) (sym (ap number is ∙ number_atom k o.0))

-- Two ways to fill the slots are equal, or the numbers of one are less.
pub fills_order : (ss : List (Option Kind)) (xs ys : List (Option Atom)) → Fills ss xs → Fills ss ys → (xs ≡ ys) ⊎ (Less (numbers xs) (numbers ys) ⊎ Less (numbers ys) (numbers xs))
fills_order [] [] [] f g = inl refl
fills_order [] [] (y ∷ ys) f g = absurd g
fills_order [] (x ∷ xs) ys f g = absurd f
fills_order (s ∷ ss) [] ys f g = absurd f
fills_order (s ∷ ss) (x ∷ xs) [] f g = absurd g
fills_order (None ∷ ss) (None ∷ xs) (None ∷ ys) f g =
    elim (fills_order ss xs ys f.1 g.1) [ inl e ↦ inl (ap (λ (os : List (Option Atom)). None ∷ os) e) | inr l ↦ inr l ]
fills_order (None ∷ ss) (None ∷ xs) (Some y ∷ ys) f g = absurd (none-some y (sym g.0))
fills_order (None ∷ ss) (Some x ∷ xs) ys f g = absurd (none-some x (sym f.0))
fills_order (Some k ∷ ss) (None ∷ xs) ys f g = absurd (none-some f.0.0 f.0.1)
fills_order (Some k ∷ ss) (Some x ∷ xs) (None ∷ ys) f g = absurd (none-some g.0.0 g.0.1)
fills_order (Some k ∷ ss) (Some x ∷ xs) (Some y ∷ ys) f g =
    elim (cases_order (number x) (number y)) [
      | inl e ↦
          let same : x ≡ y = of-kind k x f.0.0 f.0.1 f.0.2 ∙ ap (atom k) e ∙ sym (of-kind k y g.0.0 g.0.1 g.0.2) in
          elim (fills_order ss xs ys f.1 g.1) [
            | inl rest ↦ inl (ap (λ (z : Atom). Some z ∷ xs) same ∙ ap (λ (os : List (Option Atom)). Some y ∷ os) rest)
            | inr (inl l) ↦ inr (inl (inr (e, l)))
            | inr (inr l) ↦ inr (inr (inr (sym e, l)))
          ]
      | inr (inl l) ↦ inr (inl (inl l))
      | inr (inr l) ↦ inr (inr (inl l))
    ]

-- Of the ways to fill the slots this is the least for which P holds.
pub record LeastFill (ss : List (Option Kind)) (P : List (Option Atom) → Type 0) (xs : List (Option Atom)) : Type 0 where
  pub fills : Fills ss xs
  pub is : P xs
  pub least : (ys : List (Option Atom)) → Fills ss ys → P ys → Less (numbers ys) (numbers xs) → ⊥

-- There is one, or P holds for none.
abbrev pub Found : List (Option Kind) → (List (Option Atom) → Type 0) → Type 0
Found ss P = ((xs : List (Option Atom)) × LeastFill ss P xs) ⊎ ((xs : List (Option Atom)) → Fills ss xs → P xs → ⊥)

pub found_decided : (ss : List (Option Kind)) (P : List (Option Atom) → Type 0) → Found ss P → Dec ((xs : List (Option Atom)) × Fills ss xs × P xs)
found_decided ss P (inl l) = yes (l.0, l.1.fills, l.1.is)
found_decided ss P (inr none) = no (λ x. none x.0 x.1 x.2)

-- the first slot and the others
first-empty : (ss : List (Option Kind)) (ys : List (Option Atom)) → Fills (None ∷ ss) ys → (ws : List (Option Atom)) × Fills ss ws × (ys ≡ None ∷ ws)
first-empty ss [] f = absurd f
first-empty ss (o ∷ os) f = (os, f.1, ap (λ (p : Option Atom). p ∷ os) f.0)

first-taken : (k : Kind) (ss : List (Option Kind)) (ys : List (Option Atom)) → Fills (Some k ∷ ss) ys
    → (n : ℕ) × (ws : List (Option Atom)) × (n < size k) × Fills ss ws × (ys ≡ Some (atom k n) ∷ ws)
first-taken k ss [] f = absurd f
first-taken k ss (o ∷ os) f =
    let x : Atom = f.0.0 in
    let is : Of k x = f.0.2 in
    (is.0, os, is.1, f.1, ap (λ (p : Option Atom). p ∷ os) (f.0.1 ∙ ap Some is.2))

taken-numbers : (k : Kind) (n : ℕ) (ws : List (Option Atom)) → numbers (Some (atom k n) ∷ ws) ≡ n ∷ numbers ws
taken-numbers k n ws = ap (λ (m : ℕ). m ∷ numbers ws) (number_atom k n)

-- no slots
least-none : (P : List (Option Atom) → Type 0) → Dec (P []) → Found [] P
least-none P (yes p) = inl ([], record { fills = tt; is = p; least = least })
  where
    least : (ys : List (Option Atom)) → Fills [] ys → P ys → Less (numbers ys) [] → ⊥
    least [] f q l = l
    least (y ∷ ys) f q l = absurd f
least-none P (no n) = inr none
  where
    none : (ys : List (Option Atom)) → Fills [] ys → P ys → ⊥
    none [] f q = n q
    none (y ∷ ys) f q = absurd f

-- the first slot stays empty
module _ (ss : List (Option Kind)) (P : List (Option Atom) → Type 0) where
  empty-least : (xs : List (Option Atom)) → LeastFill ss (λ ws. P (None ∷ ws)) xs → LeastFill (None ∷ ss) P (None ∷ xs)
  empty-least xs l = record {
    fills = (refl, l.fills);
    is = l.is;
    least = λ ys f p less.
        let (ws, g, e) = first-empty ss ys f in
        l.least ws g (subst P e p) (subst (λ (zs : List (Option Atom)). Less (numbers zs) (numbers xs)) e less);
  }

  empty-found : Found ss (λ ws. P (None ∷ ws)) → Found (None ∷ ss) P
  empty-found (inl l) = inl (None ∷ l.0, empty-least l.0 l.1)
  empty-found (inr none) = inr (λ ys f p. let (ws, g, e) = first-empty ss ys f in none ws g (subst P e p))

-- the first slot is for a kind
module _ (k : Kind) (ss : List (Option Kind)) (P : List (Option Atom) → Type 0) where
  -- it is filled with the atom of number n
  abbrev Begun : ℕ → Type 0
  Begun n = (n < size k) × ((ws : List (Option Atom)) × Fills ss ws × P (Some (atom k n) ∷ ws))

  taken-least : (n : ℕ) → FirstOf Begun n → (xs : List (Option Atom)) → LeastFill ss (λ ws. P (Some (atom k n) ∷ ws)) xs → LeastFill (Some k ∷ ss) P (Some (atom k n) ∷ xs)
  taken-least n first xs l = record {
    fills = ((atom k n, refl, (n, first.is.0, refl)), l.fills);
    is = l.is;
    least = λ ys f p less.
        let (m, ws, lt, g, e) = first-taken k ss ys f in
        let row : numbers ys ≡ m ∷ numbers ws = ap (λ (os : List (Option Atom)). numbers os) e ∙ taken-numbers k m ws in
        above m ws lt g (subst P e p) (subst (λ (r : List ℕ). Less (m ∷ numbers ws) r) (taken-numbers k n xs) (subst (λ (r : List ℕ). Less r (numbers (Some (atom k n) ∷ xs))) row less));
  }
    where
      above : (m : ℕ) (ws : List (Option Atom)) → m < size k → Fills ss ws → P (Some (atom k m) ∷ ws) → Less (m ∷ numbers ws) (n ∷ numbers xs) → ⊥
      above m ws lt g p (inl less) = first.none-before m less (lt, (ws, g, p))
      above m ws lt g p (inr less) = l.least ws g (subst (λ (i : ℕ). P (Some (atom k i) ∷ ws)) less.0 p) less.1

  taken-found : ((n : ℕ) → Found ss (λ ws. P (Some (atom k n) ∷ ws))) → Found (Some k ∷ ss) P
  taken-found each = decide (first_or_none Begun (λ n. both_decided (below_decided n (size k)) (found_decided ss (λ ws. P (Some (atom k n) ∷ ws)) (each n))) (size k) (λ n b. b.0))
    where
      with-first : (n : ℕ) → FirstOf Begun n → Found ss (λ ws. P (Some (atom k n) ∷ ws)) → Found (Some k ∷ ss) P
      with-first n first (inl l) = inl (Some (atom k n) ∷ l.0, taken-least n first l.0 l.1)
      with-first n first (inr none) = absurd (none first.is.1.0 first.is.1.1 first.is.1.2)

      decide : ((n : ℕ) × FirstOf Begun n) ⊎ ((n : ℕ) → Begun n → ⊥) → Found (Some k ∷ ss) P
      decide (inl f) = with-first f.0 f.1 (each f.0)
      decide (inr none) = inr (λ ys f p. let (m, ws, lt, g, e) = first-taken k ss ys f in none m (lt, (ws, g, subst P e p)))

-- Of what is decided there is a least way to fill the slots for which it holds, or none.
pub least_fill : (ss : List (Option Kind)) (P : List (Option Atom) → Type 0) → ((xs : List (Option Atom)) → Dec (P xs)) → Found ss P
least_fill [] P decided = least-none P (decided [])
least_fill (None ∷ ss) P decided = empty-found ss P (least_fill ss (λ ws. P (None ∷ ws)) (λ ws. decided (None ∷ ws)))
least_fill (Some k ∷ ss) P decided = taken-found k ss P (λ n. least_fill ss (λ ws. P (Some (atom k n) ∷ ws)) (λ ws. decided (Some (atom k n) ∷ ws)))

-- ---- rows

-- Of the rows of values of which P holds this is the least.
pub record LeastRow (P : List (Option Atom) → Type 0) (xs : List (Option Atom)) : Type 0 where
  pub is : P xs
  pub least : (ys : List (Option Atom)) → P ys → Less (numbers ys) (numbers xs) → ⊥

abbrev pub SomeRow : (List (Option Atom) → Type 0) → Type 0
SomeRow P = ((xs : List (Option Atom)) × LeastRow P xs) ⊎ ((xs : List (Option Atom)) → P xs → ⊥)

module _ (P : List (Option Atom) → Type 0) where
  -- P is to fill slots so that what is decided holds
  pub some_row : (ss : List (Option Kind)) (Q : List (Option Atom) → Type 0) → ((xs : List (Option Atom)) → Dec (Q xs)) → ((xs : List (Option Atom)) → P xs → Fills ss xs × Q xs)
      → ((xs : List (Option Atom)) → Fills ss xs → Q xs → P xs) → SomeRow P
  some_row ss Q decided to from = go (least_fill ss Q decided)
    where
      go : Found ss Q → SomeRow P
      go (inl l) = inl (l.0, record { is = from l.0 l.1.fills l.1.is; least = λ ys p. l.1.least ys (to ys p).0 (to ys p).1 })
      go (inr none) = inr (λ xs p. none xs (to xs p).0 (to xs p).1)

  pub row_decided : SomeRow P → Dec ((xs : List (Option Atom)) × P xs)
  row_decided (inl l) = yes (l.0, l.1.is)
  row_decided (inr none) = no (λ x. none x.0 x.1)

  -- There is a least row where there is one.
  pub the_least : SomeRow P → (xs : List (Option Atom)) → P xs → (xs : List (Option Atom)) × LeastRow P xs
  the_least (inl l) xs p = l
  the_least (inr none) xs p = absurd (none xs p)
