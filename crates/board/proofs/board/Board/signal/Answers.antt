use Rattle.board.proofs.Calling.{signals_apart}
use Rattle.board.proofs.board.Board.signal.Goals as goal

pub returns-clause-call : goal.returns-clause-call
returns-clause-call c = signals_apart c.signals_are_formed.ensures c.args.number c.args.self.now c.try_signal.new.self c.try_signal.result c.is_read.ensures c.try_signal.ensures
