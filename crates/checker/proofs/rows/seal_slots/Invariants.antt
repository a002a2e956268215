-- The slots so far, and those for the rest of the variables, are all.
use Rattle.std.proofs.Common.{◌≡◌, ◌++◌, drop, map}
use Rattle.model.specs.Stored.{sealed_of, variable_of}
use Rattle.checker.specs.Rows.{seal_slots}
use Rattle.checker.proofs.rows.seal_slots.Given as goal

abbrev pub invariant-loop-i : goal.invariant-loop-i
invariant-loop-i l = l.slots.items ++ seal_slots (sealed_of l.seal) l.i (map variable_of (drop l.i l.free)) ≡ seal_slots (sealed_of l.seal) 0 (map variable_of l.free)
