use Rattle.message.proofs.Whole.{whole_told}
use Rattle.message.proofs.read.is_message.Goals as goal

pub returns-then-bytes-le-MOST : goal.returns-then-bytes-le-MOST
returns-then-bytes-le-MOST c = whole_told _ _ _ c.if-bytes-le-MOST.true c.after.ensures c.is_some_and.ensures
