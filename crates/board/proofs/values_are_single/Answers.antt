use Rattle.board.proofs.Turning.{turns_once}
use Rattle.board.proofs.values_are_single.Goals as goal

pub returns : goal.returns
returns c = turns_once c.names_refer.ensures
