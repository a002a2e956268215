use Rattle.std.proofs.Common.{◌-◌, arith}
use Rattle.sheet.specs.Kept.{contents_of}
use Rattle.ranks.proofs.Stacking.{rest_whole, stack_kept}
use Rattle.ranks.proofs.compute.rank_pieces.Goals as goal

pub loop-i-preserved : goal.loop-i-preserved
loop-i-preserved g c =
    let ranked = rw (rest_whole c.args.pieces.now (c.loop-i.i - 1)) at c.rank_on.ensures in
    stack_kept
    g.S.Scale.meaning
    (contents_of c.args.contents.now)
    c.args.pieces.now
    c.loop-i.i
    c.loop-i.ranks
    c.rank_on.new.ranks
    c.loop-i-test.true
    (omega arith)
    c.loop-i.invariant.0
    c.loop-i.invariant.1
    ranked
