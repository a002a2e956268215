-- The front of a table after an entry is changed.
use Rattle.std.proofs.Common.{◌≡◌, ℕ, zero, suc, refl, ap, List, [], ◌∷◌, take, slice_set}

pub take_of_set : {X : Type 0} (n : ℕ) (xs : List X) (i : ℕ) (x : X) → take n (slice_set xs i x) ≡ slice_set (take n xs) i x
take_of_set zero xs i x = refl
take_of_set (suc n) [] i x = refl
take_of_set (suc n) (y ∷ ys) zero x = refl
take_of_set (suc n) (y ∷ ys) (suc i) x = ap (λ zs. y ∷ zs) (take_of_set n ys i x)
