use Rattle.std.proofs.Common.{rules, ◌≡◌, true, false, is_some, Some, ap, subst, sym, ◌∙◌, to_z, of_z, w16, unwrap_or}
use Rattle.std.specs.List.{list_all}
use Rattle.instances.specs.Actions.{event}
use Rattle.instances.specs.Substitution.{value}
use Rattle.instances.specs.Writing.{values_of}
use Rattle.model.specs.Stored.{signal_of}
use Rattle.sheet.specs.Kept.{contents_of}
use Rattle.ranks.specs.Matching.{is_event_under}
use Rattle.ranks.specs.Ranking.{first_rank}
use Rattle.ranks.specs.Ranks.{SignalRank}
use Rattle.ranks.proofs.Signals.{signal_none, signal_ranked}
use Rattle.ranks.proofs.signal.signal_rank.Goals as goal

pub returns-then-not-all_stand : goal.returns-then-not-all_stand
returns-then-not-all_stand g c =
    let none : list_all (λ f. is_some (value (values_of c.args.values.now) f)) (signal_of c.args.signal.now).fields ≡ false = search rules in
    signal_none (values_of c.args.values.now) g.S.Scale.meaning (contents_of c.args.contents.now) (signal_of c.args.signal.now) none

pub returns : goal.returns
returns g c =
    let all : list_all (λ f. is_some (value (values_of c.args.values.now) f)) (signal_of c.args.signal.now).fields ≡ true = search rules in
    let fits : to_z w16 (of_z w16 c.or_fixed.result) ≡ c.or_fixed.result = search rules in
    let marked = c.first_mark_under-marked.ensures ∙ ap (first_rank (λ s. is_event_under (values_of c.args.values.now) s (signal_of c.args.signal.now))) c.marks.ensures in
    let is = fits ∙ c.or_fixed.ensures ∙ ap (λ o. unwrap_or o g.S.Scale.meaning.fixed) marked in
    subst
    (λ r. SignalRank g.S.Scale.meaning (contents_of c.args.contents.now) (event (values_of c.args.values.now) (signal_of c.args.signal.now)) (Some r))
    (sym is)
    (signal_ranked (values_of c.args.values.now) g.S.Scale.meaning (contents_of c.args.contents.now) (signal_of c.args.signal.now) all)
