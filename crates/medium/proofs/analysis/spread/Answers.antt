use Rattle.std.proofs.Common.{inl, arith, rules}
use Rattle.sheet.specs.Kept.{contents_of}
use Rattle.medium.proofs.Spreading.{through_none, through_one, through_unmarked}
use Rattle.medium.proofs.analysis.spread.Goals as goal
use Rattle.medium.proofs.analysis.spread.Goals.{then-marks-i-eq1+then-visit, else-marks-i-eq1, else-marks-i-eq1-via-then-marks-i-eq1+else-visit, else-marks-i-eq1-via-else-marks-i-eq1}

pub loop-i-init : goal.loop-i-init
loop-i-init c = through_none _ _ _ _ _ _

pub loop-i-preserved : goal.loop-i-preserved
loop-i-preserved c =
    let sheet = contents_of c.args.sheet.now in
    elim c.if-marks-i-eq1.branch [
      | then-marks-i-eq1+then-visit w ↦
          rw (w.marks-is, w.fresh-is)
          (through_one sheet c.args.bytes.now c.args.other.bytes.now c.args.other.marks.now c.args.from c.loop-i.i c.args.marks.now c.loop-i.marks _ c.loop-i.fresh w.visit.result _ (omega arith) c.loop-i.invariant w.visit.ensures
          (search rules)
          (search rules))
      | else-marks-i-eq1 w ↦ elim w.else-marks-i-eq1.branch [
        | else-marks-i-eq1-via-then-marks-i-eq1+else-visit v ↦
            rw (w.marks-is, w.fresh-is, v.marks-is)
            (through_one sheet c.args.bytes.now c.args.other.bytes.now c.args.other.marks.now c.args.from c.loop-i.i c.args.marks.now c.loop-i.marks _ c.loop-i.fresh v.visit.result c.loop-i.fresh (omega arith) c.loop-i.invariant v.visit.ensures
            (λ e. (e, v.if-visit.false))
            (λ e. inl e))
        | else-marks-i-eq1-via-else-marks-i-eq1 v ↦
            rw (w.marks-is, w.fresh-is, v.marks-is)
            (through_unmarked sheet c.args.bytes.now c.args.other.bytes.now c.args.other.marks.now c.args.from c.loop-i.i c.args.marks.now c.loop-i.marks c.loop-i.fresh c.loop-i.invariant v.if-marks-i-eq1.false)
      ]
    ]
