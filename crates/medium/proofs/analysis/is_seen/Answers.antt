use Rattle.std.proofs.Common.{refl, below_more}
use Rattle.medium.proofs.Seeing.{here_seen, here_unseen}
use Rattle.medium.proofs.analysis.is_seen.Goals as goal
use Rattle.medium.proofs.analysis.is_seen.Goals.{else-mark-eq1-via-then-mark-eq1+else-starts_with, else-mark-eq1-via-else-mark-eq1}

pub returns-then-starts_with : goal.returns-then-starts_with
returns-then-starts_with c = (λ _. here_seen c.args.row.bytes.now c.args.wanted.now c.loop-i.i c.starts_with.result c.starts_with.ensures.value c.args.row.marks.now c.if-mark-eq1.true c.if-starts_with.true, λ _. refl)

pub loop-i-preserved : goal.loop-i-preserved
loop-i-preserved c =
    below_more _ _ c.loop-i.invariant
    (λ on rest e. elim c.else-mark-eq1.branch [
      | else-mark-eq1-via-then-mark-eq1+else-starts_with w ↦ here_unseen c.args.row.bytes.now c.args.wanted.now c.loop-i.i w.starts_with.result w.starts_with.ensures.value w.if-starts_with.false rest e
      | else-mark-eq1-via-else-mark-eq1 w ↦ w.if-mark-eq1.false on
    ])
