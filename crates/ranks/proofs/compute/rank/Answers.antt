use Rattle.std.proofs.Common.{◌≡◌, rules, Some, slice_get, ap, ◌∙◌}
use Rattle.sheet.specs.Kept.{contents_of}
use Rattle.ranks.specs.PieceBytes.{PiecesOf}
use Rattle.ranks.specs.Ranking.{stacked}
use Rattle.ranks.proofs.Ranking.{rank_read}
use Rattle.ranks.proofs.compute.rank.Goals as goal

pub returns : goal.returns
returns g c =
    let pieces : PiecesOf c.args.bytes.now (Some c.in_ok-pieces.pieces) = search rules in
    let ranked : c.rank_pieces.result ≡ slice_get (stacked g.S.Scale.meaning (contents_of c.args.contents.now) c.in_ok-pieces.pieces) 0 = c.rank_pieces.ensures ∙ ap (λ ps. slice_get (stacked g.S.Scale.meaning (contents_of c.args.contents.now) ps) 0) c.as_slice.ensures.all in
    rank_read g.S.Scale.meaning (contents_of c.args.contents.now) c.args.bytes.now c.in_ok-pieces.pieces c.rank_pieces.result pieces ranked
