use Rattle.std.proofs.Common.{arith}
use Rattle.sheet.specs.Kept.{contents_of}
use Rattle.medium.proofs.Settling.{both_on, learnt_apart, learnt_both, neither}
use Rattle.medium.proofs.analysis.learn.Goals as goal

pub returns : goal.returns
returns c =
    let sheet = contents_of c.args.sheet.now in
    record {
      grows = both_on sheet c.args.bytes.now c.args.told.now (learnt_both sheet c.args.bytes.now c.args.told.now _ _ _ _ _ _ _ c.mark-fresh.ensures c.spread-more.ensures) c.settle.ensures.grows;
      apart = λ before. c.settle.ensures.apart (λ e.
          let neither-new = neither _ _ e in
          learnt_apart sheet c.args.bytes.now c.args.told.now _ _ _ _ _ _ _ (omega arith) c.mark-fresh.ensures c.spread-more.ensures before neither-new.0 neither-new.1);
    }
