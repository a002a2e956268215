-- The steps of a search at one place, each by its lemma.
use Rattle.std.proofs.Common.{arith, ◌∙◌, ap}
use Rattle.search.proofs.Steps.{passed_over, passed_by, none_found, least_found}
use Rattle.search.proofs.least_row.+extend.Goals as goal
use Rattle.search.proofs.least_row.+extend.Goals.{then-takes+in_ok-push+in_ok-extend+else-branch, else-takes}

pub returns-then-branch : goal.returns-then-branch
returns-then-branch g t c =
    least_found _ _ _ _ c.in_ok-push.ensures.items c.past.ensures c.loop-number.invariant _ c.in-Some.ensures.cases.0 c.if-branch.true c.in_ok-extend.ensures (c.takes.ensures.0 c.if-takes.true) (omega (arith, c.last_tried-last.ensures))

pub loop-number-preserved : goal.loop-number-preserved
loop-number-preserved g t c =
    elim c.if-takes.branch [
      | then-takes+in_ok-push+in_ok-extend+else-branch w ↦
          passed_by _ _ _ _ w.in_ok-push.ensures.items w.past.ensures c.loop-number.invariant _ _ w.extend.new.row.ok.0 (ap (λ v. v.items) w.row-is ∙ w.pop.ensures.rest) w.if-branch.false w.in_ok-extend.ensures
      | else-takes w ↦ passed_over _ _ (ap (λ v. v.items) w.row-is) w.if-takes.false c.takes.ensures c.loop-number.invariant
    ]

pub returns-after-takes : goal.returns-after-takes
returns-after-takes g t c =
    none_found _ c.last_tried-last.result c.in-Some.ensures.cases.0 (omega arith) c.last_tried-last.ensures
    (elim c.if-takes.branch [
      | then-takes+in_ok-push+in_ok-extend+else-branch w ↦
          passed_by _ _ _ _ w.in_ok-push.ensures.items w.past.ensures c.loop-number.invariant _ _ w.extend.new.row.ok.0 (ap (λ v. v.items) w.row-is ∙ w.pop.ensures.rest) w.if-branch.false w.in_ok-extend.ensures
      | else-takes w ↦ passed_over _ _ (ap (λ v. v.items) w.row-is) w.if-takes.false c.takes.ensures c.loop-number.invariant
    ])
