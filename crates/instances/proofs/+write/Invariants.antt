use Rattle.std.proofs.Common.{length}
use Rattle.instances.proofs.+write.Given as goal

abbrev pub decreases-write : goal.decreases-write
decreases-write l = length l.nodes.now
