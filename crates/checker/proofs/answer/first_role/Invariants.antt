-- No role so far has a bad step.
use Rattle.sheet.specs.Kept.{contents_of}
use Rattle.checker.proofs.Clear.{Clear}
use Rattle.checker.proofs.Judging.{BadRole}
use Rattle.checker.proofs.answer.first_role.Given as goal

abbrev pub invariant-loop-number : goal.invariant-loop-number
invariant-loop-number g l = Clear (BadRole g.S.Scale.meaning (contents_of l.contents)) l.number
