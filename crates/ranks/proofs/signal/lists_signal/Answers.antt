-- Where each field stands for something, the comparison tells; else the signal is no event.
use Rattle.std.proofs.Common.{is_some, sym, ap, ◌∙◌}
use Rattle.std.specs.List.{list_all}
use Rattle.instances.specs.Substitution.{value}
use Rattle.instances.specs.Writing.{values_of}
use Rattle.model.specs.declared.node.Field.{Field}
use Rattle.model.specs.Stored.{signal_of}
use Rattle.ranks.proofs.Signals.{listed_under, unlisted_under}
use Rattle.ranks.proofs.signal.lists_signal.Goals as goal

pub returns-then-all_stand : goal.returns-then-all_stand
returns-then-all_stand c =
    rw c.is_event_under.ensures
    (listed_under (values_of c.args.values.now) (signal_of c.args.line.now) (signal_of c.args.signal.now)
    (ap (list_all (λ (f : Field). is_some (value (values_of c.args.values.now) f))) (sym c.as_slice.ensures.value) ∙ sym c.all_stand.ensures ∙ c.if-all_stand.true))

pub returns-else-all_stand : goal.returns-else-all_stand
returns-else-all_stand c =
    rw c.if-all_stand.false
    (unlisted_under (values_of c.args.values.now) (signal_of c.args.line.now) (signal_of c.args.signal.now)
    (ap (list_all (λ (f : Field). is_some (value (values_of c.args.values.now) f))) (sym c.as_slice.ensures.value) ∙ sym c.all_stand.ensures ∙ c.if-all_stand.false))
