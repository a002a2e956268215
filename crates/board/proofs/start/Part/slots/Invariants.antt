use Rattle.std.proofs.Common.{None}
use Rattle.std.specs.Prelude.{replicate}
use Rattle.model.specs.Stored.{role_of}
use Rattle.sheet.specs.Kept.{contents_of}
use Rattle.board.specs.Starts.{slot_of}
use Rattle.board.proofs.Placing.{Placed}
use Rattle.board.proofs.start.Part.slots.Given as goal

abbrev pub invariant-loop-i : goal.invariant-loop-i
invariant-loop-i l = Placed (slot_of (contents_of l.self.contents.now) l.self.number l.self.agent (role_of l.self.role.now)) l.fn.numbers (replicate 5 None) l.i l.slots
