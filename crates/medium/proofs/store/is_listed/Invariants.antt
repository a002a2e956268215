use Rattle.std.proofs.Common.{length}
use Rattle.medium.proofs.Listing.{Left}
use Rattle.medium.proofs.store.is_listed.Given as goal

abbrev pub invariant-loop-rest : goal.invariant-loop-rest
invariant-loop-rest l = Left l.stored l.rest l.bytes

abbrev pub decreases-loop-rest : goal.decreases-loop-rest
decreases-loop-rest l = length l.rest
