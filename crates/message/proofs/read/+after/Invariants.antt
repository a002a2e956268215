use Rattle.std.proofs.Common.{length}
use Rattle.message.proofs.read.+after.Given as goal

abbrev pub decreases-after : goal.decreases-after
decreases-after l = length l.bytes.now
