-- A signal is the needed event, or shows by its rank what it shows.
use Rattle.std.proofs.Common.{sym, ◌∙◌}
use Rattle.std.proofs.lemmas.Bool.{false≢true}
use Rattle.instances.specs.Writing.{values_of}
use Rattle.model.specs.Stored.{signal_of}
use Rattle.sheet.specs.Kept.{contents_of}
use Rattle.checker.proofs.Trials.{needed_shows, signal_shows}
use Rattle.checker.proofs.steps.try_step.Goals as goal

pub returns-then-is_needed : goal.returns-then-is_needed
returns-then-is_needed g c =
    rw c.in-Signal.is (needed_shows g.S.Scale.meaning (contents_of c.args.contents.now) (values_of c.args.values.now) (signal_of c.in-Signal.signal) (c.is_needed.ensures.0 c.if-is_needed.true))

pub returns-else-is_needed : goal.returns-else-is_needed
returns-else-is_needed g c =
    rw (c.in-Signal.is, c.of_sent-else-is_needed.ensures)
    (signal_shows g.S.Scale.meaning (contents_of c.args.contents.now) (values_of c.args.values.now) (signal_of c.in-Signal.signal) c.is_positive_event.result
    (λ e. false≢true (sym c.if-is_needed.false ∙ c.is_needed.ensures.1 e))
    c.is_positive_event.ensures)
