use Rattle.model.proofs.Counting.{Counted}
use Rattle.model.proofs.term.are_term.Given as goal

abbrev pub invariant-loop-node : goal.invariant-loop-node
invariant-loop-node l = Counted l.nodes l.node-index l.wanted l.words
