use Rattle.std.proofs.Common.{length, vec_items}
use Rattle.hex_text.proofs.Reading.{Sofar}
use Rattle.hex_text.proofs.read.Given as goal

abbrev pub invariant-loop-rest : goal.invariant-loop-rest
invariant-loop-rest l = Sofar l.line (vec_items l.bytes) l.rest

abbrev pub decreases-loop-rest : goal.decreases-loop-rest
decreases-loop-rest l = length l.rest
