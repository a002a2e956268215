-- A function of each element of a list and its index, which may be missing.
use Rattle.std.specs.Prelude.{ℕ, ◌+◌, List, [], ◌∷◌, Some, Option}
use Rattle.instances.specs.Substitution.{both}

-- what f is of each element, counted from i; none where it is missing for one
abbrev pub each : {A B : Type 0} → (ℕ → A → Option B) → ℕ → List A → Option (List B)
each f i [] = Some []
each f i (x ∷ xs) = both (λ y ys. y ∷ ys) (f i x) (each f (i + 1) xs)
