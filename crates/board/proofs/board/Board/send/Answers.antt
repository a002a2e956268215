use Rattle.board.proofs.Calling.{sends_called}
use Rattle.board.proofs.board.Board.send.Goals as goal

pub returns-clause-call : goal.returns-clause-call
returns-clause-call g c = sends_called g.M.Medium.meaning g.M.Medium.steps g.M.Medium.stepped c.args.number c.args.self.now c.try_send.new.self c.args.medium.now c.try_send.new.medium c.try_send.result c.try_send.ensures
