use Rattle.rehearsal_laws.proofs.Ordering.{each_step_once}
use Rattle.rehearsal_laws.proofs.each_step_is_done_once.Goals as goal

pub returns : goal.returns
returns g c = each_step_once g.M.Medium.meaning
