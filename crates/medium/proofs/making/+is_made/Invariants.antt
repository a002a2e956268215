use Rattle.std.proofs.Common.{length}
use Rattle.medium.proofs.making.+is_made.Given as goal

abbrev pub decreases-is_made : goal.decreases-is_made
decreases-is_made l = length l.bytes.now
