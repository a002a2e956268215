use Rattle.std.proofs.Common.{filter_map, map, take}
use Rattle.instances.specs.Substitution.{message, names_alone}
use Rattle.model.specs.Stored.{term_of}
use Rattle.medium.specs.Told.{Tells}
use Rattle.medium.proofs.told.Told.of.Given as goal

abbrev pub invariant-loop-term : goal.invariant-loop-term
invariant-loop-term l = Tells (filter_map (message names_alone) (take l.term-index (map term_of l.term-items))) l.told.bytes.items l.told.marks.items
