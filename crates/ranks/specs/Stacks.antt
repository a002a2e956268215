-- What the code's stack of ranks holds.
use Rattle.std.specs.Prelude.{◌≡◌, ℕ, zero, suc, List, [], ◌∷◌, ℤ, pos, Some, None, Option, slice_index_or}

-- the first n, the last of them first
abbrev pub tops : List ℤ → ℕ → List ℤ
tops xs zero = []
tops xs (suc n) = slice_index_or xs n (pos 0) ∷ tops xs n

-- the last one is taken, if there is one
abbrev pub Pops : List ℤ → Option ℤ → List ℤ → Type 0
Pops [] r after = (r ≡ None) × (after ≡ [])
Pops (v ∷ s) r after = (r ≡ Some v) × (after ≡ s)
