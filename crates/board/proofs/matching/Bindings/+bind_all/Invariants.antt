use Rattle.std.proofs.Common.{length}
use Rattle.board.proofs.matching.Bindings.+bind_all.Given as goal

abbrev pub decreases-bind_all : goal.decreases-bind_all
decreases-bind_all l = length l.nodes.now
