-- What is decided by its parts, and the first number of which something holds.
use Rattle.std.proofs.Common.{◌≡◌, ℕ, zero, suc, ◌<◌, ◌≤◌, Bool, true, false, ◌⊎◌, ◌↔◌, Some, None, Option, inl, inr, sym, refl, ap, subst, ◌∙◌, arith}
use Rattle.std.specs.Prelude.{ℤ}
use Rattle.std.proofs.lemmas.Bool.{cases_lt, cases_order, false≢true}
use Rattle.std.proofs.lemmas.Option.{none-some, same_Some}
use Rattle.message.specs.Message.{Msg}
use Rattle.model.specs.Sheet.{Sheet}
use Rattle.instances.specs.Actions.{Action, Event, receives, sends, signals}
use Rattle.scale.specs.Scales.{Scale}
use Rattle.ranks.specs.Conditions.{Maintains}
use Rattle.ranks.specs.Laws.{JustOne}
use Rattle.ranks.specs.Ranks.{EventRank, Positive, PositiveEvent, Rank}
use Rattle.ranks.proofs.Finding.{dec_by}
use Rattle.ranks.proofs.Single.{ranks_single}
use Rattle.checker.specs.Verdicts.{FirstOf}

-- ---- by parts

pub both_decided : {A B : Type 0} → Dec A → Dec B → Dec (A × B)
both_decided (yes a) (yes b) = yes (a, b)
both_decided (yes a) (no n) = no (λ p. n p.1)
both_decided (no n) b = no (λ p. n p.0)

pub either_decided : {A B : Type 0} → Dec A → Dec B → Dec (A ⊎ B)
either_decided (yes a) b = yes (inl a)
either_decided (no n) (yes b) = yes (inr b)
either_decided {A} {B} (no n) (no m) = no none
  where
    none : A ⊎ B → ⊥
    none (inl a) = n a
    none (inr b) = m b

pub not_decided : {A : Type 0} → Dec A → Dec (A → ⊥)
not_decided (yes a) = no (λ n. n a)
not_decided (no n) = yes n

pub iff_decided : {A B : Type 0} → Dec A → Dec B → Dec (A ↔ B)
iff_decided (yes a) (yes b) = yes (λ _. b, λ _. a)
iff_decided (yes a) (no m) = no (λ e. m (e.0 a))
iff_decided (no n) (yes b) = no (λ e. n (e.1 b))
iff_decided (no n) (no m) = yes (λ a. absurd (n a), λ b. absurd (m b))

pub true_decided : (b : Bool) → Dec (b ≡ true)
true_decided true = yes refl
true_decided false = no false≢true

pub below_decided : (m n : ℕ) → Dec (m < n)
below_decided m n = elim (cases_lt m n) [ inl l ↦ yes l | inr l ↦ no (λ h. omega arith) ]

-- whether something is there of which P holds
pub there_decided : {A : Type 0} (P : A → Type 0) → ((a : A) → Dec (P a)) → (o : Option A) → Dec ((a : A) × (o ≡ Some a) × P a)
there_decided P decided None = no (λ x. none-some x.0 x.1)
there_decided P decided (Some a) = dec_by (λ p. (a, refl, p)) (λ x. subst P (sym (same_Some a x.0 x.1)) x.2) (decided a)

pub at_most_decided : (m n : ℕ) → Dec (m ≤ n)
at_most_decided m n = elim (cases_lt n m) [ inl l ↦ no (λ h. omega arith) | inr l ↦ yes l ]

-- What is decided holds where it cannot be that it does not.
pub stable : {A : Type 0} → Dec A → ((A → ⊥) → ⊥) → A
stable (yes a) n = a
stable (no m) n = absurd (n m)

-- ---- whether a rank is positive

above_decided : (scale : Scale) (P : ℤ → Type 0) → JustOne P → Dec ((v : ℤ) × P v × (scale.above v ≡ true))
above_decided scale P one = dec_by (λ e. (one.0, one.1, e)) (λ p. ap scale.above (sym (one.2 p.0 p.1)) ∙ p.2) (true_decided (scale.above one.0))

module _ (scale : Scale) (sheet : Sheet) where
  pub positive_decided : (m : Msg) → Dec (Positive scale sheet m)
  positive_decided m = above_decided scale (λ v. Rank scale sheet m v) ((ranks_single scale sheet).0 m)

  pub event_decided : (e : Event) → Dec (PositiveEvent scale sheet e)
  event_decided e = above_decided scale (λ v. EventRank scale sheet e v) ((ranks_single scale sheet).1 e)

  pub maintains_decided : (d : Action) → Dec (Maintains scale sheet d)
  maintains_decided (sends m) = positive_decided m
  maintains_decided (receives m) = yes tt
  maintains_decided (signals e) = event_decided e

-- ---- the first

-- Two firsts are the same.
pub first_same : (P : ℕ → Type 0) (i j : ℕ) → FirstOf P i → FirstOf P j → i ≡ j
first_same P i j f g =
    elim (cases_order i j) [
      | inl e ↦ e
      | inr (inl l) ↦ absurd (g.none-before i l f.is)
      | inr (inr l) ↦ absurd (f.none-before j l g.is)
    ]

module _ (P : ℕ → Type 0) (decided : (i : ℕ) → Dec (P i)) where
  first_below : (n : ℕ) → ((i : ℕ) × FirstOf P i) ⊎ ((i : ℕ) → i < n → P i → ⊥)
  first_below zero = inr (λ i l. absurd (omega arith))
  first_below (suc n) = more (first_below n) (decided n)
    where
      more : ((i : ℕ) × FirstOf P i) ⊎ ((i : ℕ) → i < n → P i → ⊥) → Dec (P n) → ((i : ℕ) × FirstOf P i) ⊎ ((i : ℕ) → i < suc n → P i → ⊥)
      more (inl f) d = inl f
      more (inr none) (yes p) = inl (n, record { is = p; none-before = none })
      more (inr none) (no np) = inr (λ i l p. elim (cases_order i n) [
        | inl e ↦ np (subst P e p)
        | inr (inl below) ↦ none i below p
        | inr (inr above) ↦ absurd (omega arith)
      ])

  -- Where it holds of no number from n on, there is a first one or none.
  pub first_or_none : (n : ℕ) → ((i : ℕ) → P i → i < n) → ((i : ℕ) × FirstOf P i) ⊎ ((i : ℕ) → P i → ⊥)
  first_or_none n bound = elim (first_below n) [ inl f ↦ inl f | inr none ↦ inr (λ i p. none i (bound i p) p) ]

  pub some_decided : (n : ℕ) → ((i : ℕ) → P i → i < n) → Dec ((i : ℕ) × P i)
  some_decided n bound = elim (first_or_none n bound) [ inl f ↦ yes (f.0, f.1.is) | inr none ↦ no (λ x. none x.0 x.1) ]

  -- There is a first one where there is one.
  pub the_first : (i : ℕ) → P i → (i : ℕ) × FirstOf P i
  the_first i p = elim (first_below (suc i)) [ inl f ↦ f | inr none ↦ absurd (none i (omega arith) p) ]
