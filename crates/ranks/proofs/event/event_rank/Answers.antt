use Rattle.std.proofs.Common.{rules, ◌≡◌, subst, sym, to_z, of_z, w16}
use Rattle.sheet.specs.Kept.{contents_of}
use Rattle.ranks.specs.Ranking.{mark_rank}
use Rattle.ranks.specs.Ranks.{EventRank, event_of}
use Rattle.ranks.proofs.Events.{event_ranked}
use Rattle.ranks.proofs.event.event_rank.Goals as goal

pub returns : goal.returns
returns g c =
    let is : to_z w16 (of_z w16 c.mark_rank.result) ≡ mark_rank g.S.Scale.meaning (contents_of c.args.contents.now) c.args.word.now c.args.atoms.now = search rules in
    subst
    (EventRank g.S.Scale.meaning (contents_of c.args.contents.now) (event_of c.args.word.now c.args.atoms.now))
    (sym is)
    (event_ranked g.S.Scale.meaning (contents_of c.args.contents.now) c.args.word.now c.args.atoms.now)
