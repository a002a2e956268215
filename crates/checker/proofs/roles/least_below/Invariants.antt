-- No agent before this one has a bad step below the bound.
use Rattle.sheet.specs.Kept.{contents_of}
use Rattle.checker.proofs.Narrowing.{NoneBefore}
use Rattle.checker.proofs.roles.least_below.Given as goal

abbrev pub invariant-loop-agent : goal.invariant-loop-agent
invariant-loop-agent g l = NoneBefore g.S.Scale.meaning (contents_of l.contents) l.number l.bound l.agent
