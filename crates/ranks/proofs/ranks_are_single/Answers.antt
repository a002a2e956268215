use Rattle.ranks.proofs.Single.{ranks_single}
use Rattle.ranks.proofs.ranks_are_single.Goals as goal

pub returns : goal.returns
returns g c = ranks_single g.S.Scale.meaning
