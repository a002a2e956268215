-- Each call that leads back to `solves` has fewer nodes.
use Rattle.std.proofs.Common.{◌+◌, ◌*◌, length}
use Rattle.ranks.proofs.matching.+matching.Given as goal

abbrev pub decreases-in_order : goal.decreases-in_order
decreases-in_order l = 3 * length l.nodes.now + 1

abbrev pub decreases-in_some_order : goal.decreases-in_some_order
decreases-in_some_order l = 3 * length l.nodes.now + 2

abbrev pub decreases-solves : goal.decreases-solves
decreases-solves l = 3 * length l.nodes.now
