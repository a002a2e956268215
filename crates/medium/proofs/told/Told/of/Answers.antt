use Rattle.std.proofs.Common.{rules}
use Rattle.medium.proofs.Telling.{tells_none, tells_some}
use Rattle.medium.proofs.told.Told.of.Goals as goal
use Rattle.medium.proofs.told.Told.of.Goals.{in-Some+in_ok-push, in_default}

pub loop-term-preserved : goal.loop-term-preserved
loop-term-preserved c =
    elim c.match-substitute.branch [
      | in-Some+in_ok-push w ↦
          let (m, e, r) = w.in-Some.ensures in
          rw w.told-is (tells_some c.known-term-items.result.now c.loop-term.term-index c.term-item.result c.loop-term-test.true c.term-item.is m _ _ e (w.in_ok-push.ensures m _ (search rules) c.loop-term.invariant))
      | in_default w ↦ rw w.told-is (tells_none c.known-term-items.result.now c.loop-term.term-index c.term-item.result c.loop-term-test.true c.term-item.is _ _ w.in_default.ensures c.loop-term.invariant)
    ]
