-- The steps so far keep to the condition.
use Rattle.std.proofs.Common.{map}
use Rattle.instances.specs.Writing.{values_of}
use Rattle.model.specs.Stored.{step_of}
use Rattle.sheet.specs.Kept.{contents_of}
use Rattle.checker.specs.Trying.{done}
use Rattle.checker.proofs.Trials.{KeptSoFar}
use Rattle.checker.proofs.steps.first_break.Given as goal

abbrev pub invariant-loop-k : goal.invariant-loop-k
invariant-loop-k g l = KeptSoFar g.S.Scale.meaning (contents_of l.contents) (done (values_of l.values) (map step_of l.steps)) l.k
