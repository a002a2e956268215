use Rattle.board.proofs.Rehearsed.{apart_called}
use Rattle.board.proofs.acts.play.Goals as goal

pub returns-in_err-start-in-Start-clause-call : goal.returns-in_err-start-in-Start-clause-call
returns-in_err-start-in-Start-clause-call g c = apart_called g.M.Medium.meaning c.args.board.now c.start.new.self c.args.medium.now c.start.ensures.call

pub returns-in_ok-start-in-Start-clause-call : goal.returns-in_ok-start-in-Start-clause-call
returns-in_ok-start-in-Start-clause-call g c = apart_called g.M.Medium.meaning c.args.board.now c.start.new.self c.args.medium.now c.start.ensures.call

pub returns-in-Signal-clause-call : goal.returns-in-Signal-clause-call
returns-in-Signal-clause-call g c = apart_called g.M.Medium.meaning c.args.board.now c.signal.new.self c.args.medium.now c.signal.ensures.call
