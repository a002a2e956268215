-- What an exchange of two strangers keeps.
use Rattle.std.proofs.Common.{◌≡◌, ℕ, ◌<◌, ◌≤◌, true, cond, nat_eq, List, [], ◌∷◌, inl, inr, subst, refl, arith}
use Rattle.std.proofs.lemmas.Bool.{cond_both, eqb-true}
use Rattle.std.proofs.lemmas.Bool.Decides.{nat_tests}
use Rattle.message.specs.declared.Kind.{Kind}
use Rattle.message.specs.declared.Kind.TheVariants.{Agent, Nonce, Text}
use Rattle.search.specs.declared.place.Counts.{Counts}
use Rattle.search.specs.declared.place.Place.{Place}
use Rattle.search.specs.Canonical.{past}
use Rattle.search.specs.Exchange.{Stranger, exchanged, same_kind, swap}
use Rattle.search.specs.Rows.{Allowed, Fits, count}

same-self : (k : Kind) → same_kind k k ≡ true
same-self Agent = refl
same-self Nonce = refl
same-self Text = refl

same-is : (j k : Kind) → same_kind j k ≡ true → k ≡ j
same-is Agent Agent e = refl
same-is Agent Nonce e = cc
same-is Agent Text e = cc
same-is Nonce Agent e = cc
same-is Nonce Nonce e = refl
same-is Nonce Text e = cc
same-is Text Agent e = cc
same-is Text Nonce e = cc
same-is Text Text e = refl

-- A number below both stays.
pub swap-below : (u w x : ℕ) → x < u → x < w → swap u w x ≡ x
swap-below u w x hu hw = grind (arith, nat_tests)

swap-first : (u w : ℕ) → swap u w u ≡ w
swap-first u w = grind (arith, nat_tests)

-- At a place of the kind the first of the two becomes the other.
pub head-swapped : (k : Kind) (u w : ℕ) → cond (same_kind k k) (swap u w u) u ≡ w
head-swapped Agent u w = swap-first u w
head-swapped Nonce u w = swap-first u w
head-swapped Text u w = swap-first u w

-- A number that is used already stays.
pub head-kept : (next : Counts) (j k : Kind) (x u w : ℕ) → count (past next j x) k ≤ u → count (past next j x) k ≤ w → cond (same_kind j k) (swap u w x) x ≡ x
head-kept next Agent Agent x u w hu hw = swap-below u w x (omega arith) (omega arith)
head-kept next Agent Nonce x u w hu hw = refl
head-kept next Agent Text x u w hu hw = refl
head-kept next Nonce Agent x u w hu hw = refl
head-kept next Nonce Nonce x u w hu hw = swap-below u w x (omega arith) (omega arith)
head-kept next Nonce Text x u w hu hw = refl
head-kept next Text Agent x u w hu hw = refl
head-kept next Text Nonce x u w hu hw = refl
head-kept next Text Text x u w hu hw = swap-below u w x (omega arith) (omega arith)

pub past-grows : (next : Counts) (j k : Kind) (x : ℕ) → count next k ≤ count (past next j x) k
past-grows next Agent Agent x = omega arith
past-grows next Agent Nonce x = omega arith
past-grows next Agent Text x = omega arith
past-grows next Nonce Agent x = omega arith
past-grows next Nonce Nonce x = omega arith
past-grows next Nonce Text x = omega arith
past-grows next Text Agent x = omega arith
past-grows next Text Nonce x = omega arith
past-grows next Text Text x = omega arith

-- Where one stranger may stand, so may every other.
pub stranger-fits : (named : Counts) (p : Place) (u w : ℕ) → Stranger named p.kind u → Stranger named p.kind w → Fits named p u → Fits named p w
stranger-fits named p u w su sw (small, inl h) = absurd (omega (arith, su.low, h.0))
stranger-fits named p u w su sw (small, inr h) = (sw.high, inr (sw.low, h.1))

fits-swapped : (named : Counts) (p : Place) (u w x : ℕ) → Stranger named p.kind u → Stranger named p.kind w → Fits named p x → Fits named p (swap u w x)
fits-swapped named p u w x su sw h =
    cond_both (nat_eq x u) w (cond (nat_eq x w) u x) (Fits named p)
    (λ e. stranger-fits named p u w su sw (subst (Fits named p) (eqb-true x u e) h))
    (λ _. cond_both (nat_eq x w) u x (Fits named p) (λ e. stranger-fits named p w u sw su (subst (Fits named p) (eqb-true x w e) h)) (λ _. h))

fits-exchanged : (named : Counts) (k : Kind) (p : Place) (u w x : ℕ) → Stranger named k u → Stranger named k w → Fits named p x → Fits named p (cond (same_kind p.kind k) (swap u w x) x)
fits-exchanged named k p u w x su sw h =
    cond_both (same_kind p.kind k) (swap u w x) x (Fits named p)
    (λ e. let is = same-is p.kind k e in fits-swapped named p u w x (subst (λ (j : Kind). Stranger named j u) is su) (subst (λ (j : Kind). Stranger named j w) is sw) h)
    (λ _. h)

-- So an allowed row stays allowed.
pub allowed-exchanged : (named : Counts) (k : Kind) (u w : ℕ) (ps : List Place) (xs : List ℕ) → Stranger named k u → Stranger named k w → Allowed named ps xs → Allowed named ps (exchanged k u w ps xs)
allowed-exchanged named k u w [] xs su sw h = h
allowed-exchanged named k u w (p ∷ ps) [] su sw h = h
allowed-exchanged named k u w (p ∷ ps) (x ∷ xs) su sw h = (fits-exchanged named k p u w x su sw h.0, allowed-exchanged named k u w ps xs su sw h.1)
