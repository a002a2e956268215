use Rattle.std.proofs.Common.{◌≡◌, false, rules}
use Rattle.sheet.specs.Kept.{contents_of}
use Rattle.medium.specs.Spreading.{both_same}
use Rattle.medium.proofs.Learning.{or_cases}
use Rattle.medium.proofs.Settling.{neither, round_apart, round_both, round_fewer}
use Rattle.medium.proofs.analysis.settle.Goals as goal

pub loop-again-init : goal.loop-again-init
loop-again-init c = record { grows = both_same; apart = λ e h. h e }

pub loop-again-smaller : goal.loop-again-smaller
loop-again-smaller c =
    rw c.loop-again-test.true
    (round_fewer (contents_of c.args.sheet.now) c.args.bytes.now c.args.told.now c.loop-again.marks c.loop-again.told_marks c.spread-heard_again.new.marks c.spread-told_again.new.marks c.spread-told_again.result c.spread-heard_again.result _ c.spread-told_again.ensures c.spread-heard_again.ensures (search (rules, or_cases)))

pub loop-again-preserved : goal.loop-again-preserved
loop-again-preserved c = record {
  grows = round_both (contents_of c.args.sheet.now) c.args.bytes.now c.args.told.now _ _ _ _ _ _ _ _ c.loop-again.invariant.grows c.spread-told_again.ensures c.spread-heard_again.ensures;
  apart = λ e h. let neither-new : (c.spread-told_again.result ≡ false) × (c.spread-heard_again.result ≡ false) = search (rules, neither) in round_apart (contents_of c.args.sheet.now) c.args.bytes.now c.args.told.now _ _ _ _ _ _ c.spread-told_again.ensures c.spread-heard_again.ensures neither-new.0 neither-new.1;
}
