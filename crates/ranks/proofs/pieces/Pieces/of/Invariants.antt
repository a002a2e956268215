-- What is left is the bytes of the nodes that were not read, and each node takes some.
use Rattle.std.proofs.Common.{length}
use Rattle.ranks.proofs.Reading.{Pending}
use Rattle.ranks.proofs.pieces.Pieces.of.Given as goal

abbrev pub invariant-loop-piece : goal.invariant-loop-piece
invariant-loop-piece l = Pending l.bytes l.pieces l.rest

abbrev pub decreases-loop-piece : goal.decreases-loop-piece
decreases-loop-piece l = length l.rest
