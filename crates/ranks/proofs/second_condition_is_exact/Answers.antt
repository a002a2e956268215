use Rattle.ranks.proofs.Generation.{second_exact}
use Rattle.ranks.proofs.second_condition_is_exact.Goals as goal

pub returns : goal.returns
returns g c = second_exact g.S.Scale.meaning g.met.S.Scale.lawful
