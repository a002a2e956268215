-- What is filled so far, and the rest of the row in the rest of the slots, are the whole.
use Rattle.std.proofs.Common.{◌≡◌, ◌++◌, ◌≤◌, drop, length}
use Rattle.std.specs.Option.{option_map}
use Rattle.checker.specs.Rows.{filling}
use Rattle.checker.proofs.rows.fill.Given as goal

abbrev pub invariant-loop-slot : goal.invariant-loop-slot
invariant-loop-slot l = record {
  many : length l.values.items ≡ l.slot-index;
  few : length l.values.items ≤ 5;
  whole : filling l.slots l.fn.row ≡ option_map (λ os. l.values.items ++ os) (filling (drop l.slot-index l.slots) l.rest);
}
