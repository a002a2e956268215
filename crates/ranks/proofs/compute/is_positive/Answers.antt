use Rattle.std.proofs.Common.{rules, ◌≡◌, Bool, Some, Decides, subst, sym}
use Rattle.sheet.specs.Kept.{contents_of}
use Rattle.ranks.specs.Ranks.{IsPositive, RankOf}
use Rattle.ranks.proofs.Deciding.{positive_some}
use Rattle.ranks.proofs.compute.is_positive.Goals as goal

pub returns-in-Some : goal.returns-in-Some
returns-in-Some g c =
    let sheet = contents_of c.args.contents.now in
    let ranked : RankOf g.S.Scale.meaning sheet c.args.bytes.now (Some c.in-Some.rank) = search rules in
    let is : c.is_positive.result ≡ g.S.Scale.meaning.above c.in-Some.rank = search rules in
    subst (λ (b : Bool). Decides b (IsPositive g.S.Scale.meaning sheet c.args.bytes.now)) (sym is) (positive_some g.S.Scale.meaning sheet c.args.bytes.now c.in-Some.rank ranked)
