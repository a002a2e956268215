use Rattle.std.proofs.Common.{None}
use Rattle.std.specs.Prelude.{replicate}
use Rattle.instances.specs.Writing.{values_of}
use Rattle.board.proofs.Keeping.{place}
use Rattle.board.proofs.Placing.{Placed}
use Rattle.board.proofs.steps.event.Given as goal

abbrev pub invariant-loop-i : goal.invariant-loop-i
invariant-loop-i l = Placed (place (values_of l.values)) l.signal.fields.items (replicate 4 None) l.i l.atoms
