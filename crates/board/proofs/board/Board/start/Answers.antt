use Rattle.std.proofs.Common.{arith}
use Rattle.board.proofs.Starting.{starts_apart}
use Rattle.board.proofs.board.Board.start.Goals as goal

pub returns-clause-call : goal.returns-clause-call
returns-clause-call c = starts_apart c.counts_lie_in_range.ensures c.args.role c.args.agent c.args.values (omega arith) c.args.self.now c.try_start.new.self c.try_start.result c.is_read.ensures c.try_start.ensures
