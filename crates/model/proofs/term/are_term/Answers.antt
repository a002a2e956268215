use Rattle.model.specs.declared.node.Node.TheVariants.{Pair}
use Rattle.model.proofs.Counting.{counted-all, counted-more, none-wanted, too_many}
use Rattle.model.proofs.term.are_term.Goals as goal

pub returns-then-wanted-eq0 : goal.returns-then-wanted-eq0
returns-then-wanted-eq0 c = none-wanted _ _ _ _ c.loop-node.invariant Pair c.loop-node-test.true c.if-wanted-eq0.true

pub returns-then-words-gt-MOST_WORDS : goal.returns-then-words-gt-MOST_WORDS
returns-then-words-gt-MOST_WORDS c = too_many _ _ _ _ c.loop-node.invariant _ c.loop-node-test.true _ c.words-words.ensures c.if-words-gt-MOST_WORDS.true

pub loop-node-preserved : goal.loop-node-preserved
loop-node-preserved c =
    counted-more _ _ _ _ c.loop-node.invariant _ c.loop-node-test.true _ c.words-words.ensures _ c.arity.ensures c.if-wanted-eq0.false c.if-words-gt-MOST_WORDS.false

pub returns : goal.returns
returns c = counted-all _ _ _ _ c.loop-node.invariant c.loop-node-test.false
