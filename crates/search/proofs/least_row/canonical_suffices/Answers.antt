-- The laws of canonical rows, at a test that suits.
use Rattle.search.proofs.Firsts as firsts
use Rattle.search.proofs.Firsts.{canonical_least, least_one}
use Rattle.search.proofs.least_row.canonical_suffices.Goals as goal

pub returns-clause-suffices : goal.returns-clause-suffices
returns-clause-suffices g c = λ suits. firsts.canonical_suffices _ _ _ (g.T.Test.suited _ _ _ suits)

pub returns-clause-least : goal.returns-clause-least
returns-clause-least g c = λ suits xs r.
    let least = canonical_least _ _ _ (g.T.Test.suited _ _ _ suits) xs r in
    (least, λ ys s. least_one _ _ _ xs ys least s)
