-- What is found is the least instance in which the step at the bound is bad; nothing is found where the bound is past the last step.
use Rattle.std.proofs.Common.{length}
use Rattle.sheet.specs.Kept.{contents_of}
use Rattle.checker.proofs.Narrowing.{Narrowed}
use Rattle.checker.proofs.roles.first_bad.Given as goal

abbrev pub invariant-loop-found : goal.invariant-loop-found
invariant-loop-found g l = Narrowed g.S.Scale.meaning (contents_of l.contents) l.number (length l.role.steps.items) l.bound l.found

abbrev pub decreases-loop-found : goal.decreases-loop-found
decreases-loop-found g l = l.bound
