-- The choices so far, and those for the rest of the slots, are all.
use Rattle.std.proofs.Common.{◌≡◌, ◌++◌, drop, map}
use Rattle.sheet.specs.Kept.{contents_of}
use Rattle.checker.specs.Kept.{choice_of}
use Rattle.checker.specs.Rows.{open_choices}
use Rattle.checker.proofs.rows.open_choices.Given as goal

abbrev pub invariant-loop-slot : goal.invariant-loop-slot
invariant-loop-slot l = map choice_of l.choices.items ++ open_choices (contents_of l.contents) (drop l.slot-index l.slots) ≡ open_choices (contents_of l.contents) l.slots
