use Rattle.sheet_laws.proofs.Signalling.{signals_formed}
use Rattle.sheet_laws.proofs.signals_are_formed.Goals as goal

pub returns : goal.returns
returns c = signals_formed
