-- What crates that show a test to tell no two strangers apart cite: what stands in a row after an exchange.
use Rattle.std.proofs.Common.{◌≡◌, ℕ, zero, suc, ◌<◌, ◌≤◌, cond, nat_eq, List, [], ◌∷◌, length, get_or, ap, refl, arith}
use Rattle.std.proofs.lemmas.Bool.Decides.{nat_tests}
use Rattle.message.specs.declared.Kind.{Kind}
use Rattle.search.specs.declared.place.Counts.{Counts}
use Rattle.search.specs.declared.place.Place.{Place}
use Rattle.search.specs.Exchange.{exchanged, same_kind, swap}
use Rattle.search.specs.Rows.{Allowed}

pub exchanged_at : (named : Counts) (k : Kind) (u w : ℕ) (ps : List Place) (xs : List ℕ) (i : ℕ) (d : Place) → Allowed named ps xs → i < length ps → get_or (exchanged k u w ps xs) i 0 ≡ cond (same_kind ((get_or ps i d).kind) k) (swap u w (get_or xs i 0)) (get_or xs i 0)
exchanged_at named k u w [] xs i d al h = absurd (omega arith)
exchanged_at named k u w (p ∷ ps) [] i d al h = absurd al
exchanged_at named k u w (p ∷ ps) (x ∷ xs) zero d al h = refl
exchanged_at named k u w (p ∷ ps) (x ∷ xs) (suc i) d al h = exchanged_at named k u w ps xs i d al.1 (omega arith)

pub length-exchanged : (k : Kind) (u w : ℕ) (ps : List Place) (xs : List ℕ) → length (exchanged k u w ps xs) ≡ length xs
length-exchanged k u w [] xs = refl
length-exchanged k u w (p ∷ ps) [] = refl
length-exchanged k u w (p ∷ ps) (x ∷ xs) = ap suc (length-exchanged k u w ps xs)

-- A number that has a name keeps it.
pub swap_named : (n u w x : ℕ) → n ≤ u → n ≤ w → x < n → swap u w x ≡ x
swap_named n u w x hu hw h = grind (arith, nat_tests)

-- One that has none stays without.
pub swap_unnamed : (n u w x : ℕ) → n ≤ u → n ≤ w → n ≤ x → n ≤ swap u w x
swap_unnamed n u w x hu hw h = grind (arith, nat_tests)

-- Different numbers stay different.
pub swap_same : (u w x y : ℕ) → nat_eq (swap u w x) (swap u w y) ≡ nat_eq x y
swap_same u w x y = grind (arith, nat_tests)
