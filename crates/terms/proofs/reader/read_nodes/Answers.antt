use Rattle.std.proofs.Common.{rules}
use Rattle.terms.specs.Terms.{read_nodes}
use Rattle.terms.proofs.TermWords.{term-more}
use Rattle.terms.proofs.reader.read_nodes.Goals as goal

pub loop-i-init : goal.loop-i-init
unfolding read_nodes
loop-i-init c = search rules

pub loop-i-preserved : goal.loop-i-preserved
loop-i-preserved c = term-more c.loop-i.invariant _ c.loop-i-test.true c.if-is_full.ensures _ c.in_ok-read_word.ensures
