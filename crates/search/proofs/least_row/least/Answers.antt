-- What the law of canonical rows makes of the row that is found.
use Rattle.std.proofs.Common.{rules}
use Rattle.search.proofs.Firsts.{canonical_least, canonical_none}
use Rattle.search.proofs.least_row.least.Goals as goal

pub returns-then-branch-clause-all : goal.returns-then-branch-clause-all
returns-then-branch-clause-all g c = λ suits.
    canonical_least _ _ _ (g.T.Test.suited c.args.test.now c.args.named c.args.places.now suits) _ (search rules)

pub returns-else-branch-clause-all : goal.returns-else-branch-clause-all
returns-else-branch-clause-all g c = λ suits.
    canonical_none _ _ _ (g.T.Test.suited c.args.test.now c.args.named c.args.places.now suits) (search rules)
