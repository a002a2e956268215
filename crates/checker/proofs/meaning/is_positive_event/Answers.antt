-- The rank is that of the event that the signal is.
use Rattle.std.proofs.Common.{◌≡◌, rules}
use Rattle.instances.specs.Actions.{event}
use Rattle.instances.specs.Writing.{values_of}
use Rattle.model.specs.Stored.{signal_of}
use Rattle.sheet.specs.Kept.{contents_of}
use Rattle.checker.proofs.Telling.{event_tells}
use Rattle.checker.proofs.meaning.is_positive_event.Goals as goal

pub returns : goal.returns
returns g c =
    let is : c.is_positive.result ≡ g.S.Scale.meaning.above c.in_ok-rank.rank = search rules in
    rw is (event_tells g.S.Scale.meaning (contents_of c.args.contents.now) (event (values_of c.args.values.now) (signal_of c.args.signal.now)) c.in_ok-rank.rank c.in_ok-rank.ensures)
