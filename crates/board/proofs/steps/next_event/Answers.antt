use Rattle.std.proofs.Common.{sym, ap, subst}
use Rattle.model.specs.Stored.{step_of}
use Rattle.sheet_laws.specs.Signals.{FormedStep}
use Rattle.board.proofs.Reading.{next_formed}
use Rattle.board.proofs.steps.next_event.Goals as goal

pub event-requires : goal.event-requires
event-requires c =
    let formed = next_formed c.signals_are_formed.ensures c.args.sheet.now c.in_ok-signal.ensures.read c.args.session.now (step_of c.in_ok-signal.field-0.now) (sym c.in_ok-signal.ensures.step) in
    (subst FormedStep (ap step_of c.in-Signal.is) formed).few
