use Rattle.std.proofs.Common.{◌≡◌, ℕ, ◌<◌, ◌++◌, List, drop}
use Rattle.medium.specs.Spreading.{Marked}
use Rattle.medium.proofs.analysis.is_seen.Given as goal

abbrev pub invariant-loop-i : goal.invariant-loop-i
invariant-loop-i l = (k : ℕ) → k < l.i → Marked l.row.marks.now k → (rest : List ℕ) → drop k l.row.bytes.now ≡ l.wanted ++ rest → ⊥
