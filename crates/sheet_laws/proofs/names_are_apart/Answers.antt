use Rattle.sheet_laws.proofs.Naming.{names_apart}
use Rattle.sheet_laws.proofs.names_are_apart.Goals as goal

pub returns : goal.returns
returns c = names_apart
