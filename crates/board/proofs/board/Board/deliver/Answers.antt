use Rattle.board.proofs.Calling.{delivers_called}
use Rattle.board.proofs.board.Board.deliver.Goals as goal

pub returns-clause-call : goal.returns-clause-call
returns-clause-call g c = delivers_called g.M.Medium.meaning c.args.number c.args.bytes.now c.args.self.now c.try_deliver.new.self c.args.medium.now c.try_deliver.result c.try_deliver.ensures
