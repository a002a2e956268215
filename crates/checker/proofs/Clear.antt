-- Looking through a list from its first: nothing is found so far.
use Rattle.std.proofs.Common.{◌≡◌, ℕ, zero, suc, ◌+◌, ◌<◌, ◌≤◌, List, [], ◌∷◌, map, length, get_or, Some, sym, ap, arith, below_more}
use Rattle.std.specs.List.{slice_get}
use Rattle.checker.specs.Verdicts.{FirstOf}

-- P holds of no number below k.
pub record Clear (P : ℕ → Type 0) (k : ℕ) : Type 0 where
  pub none : (j : ℕ) → j < k → P j → ⊥

pub clear_start : (P : ℕ → Type 0) → Clear P 0
clear_start P = record { none = λ j lt p. absurd (omega arith) }

pub clear_more : (P : ℕ → Type 0) (k : ℕ) → Clear P k → (P k → ⊥) → Clear P (k + 1)
clear_more P k clear here = record { none = below_more (λ j. P j → ⊥) k clear.none here }

-- P holds of no number, where it holds of none past k.
pub clear_all : (P : ℕ → Type 0) (k n : ℕ) → Clear P k → n ≤ k → ((j : ℕ) → P j → j < n) → (j : ℕ) → P j → ⊥
clear_all P k n clear past within j p = let lt : j < n = within j p in clear.none j (omega arith) p

pub clear_first : (P : ℕ → Type 0) (k : ℕ) → Clear P k → P k → FirstOf P k
clear_first P k clear here = record { is = here; none-before = clear.none }

-- An item of a list, as the list is in the model.
pub item_at : {X Y : Type 0} (f : X → Y) (xs : List X) (k : ℕ) (x : X) → k < length xs → x ≡ get_or xs k x → slice_get (map f xs) k ≡ Some (f x)
item_at f [] k x lt is = absurd (omega arith)
item_at f (y ∷ ys) zero x lt is = ap (λ z. Some (f z)) (sym is)
item_at f (y ∷ ys) (suc k) x lt is = item_at f ys k x (omega arith) is
