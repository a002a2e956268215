-- No line so far gives the message.
use Rattle.std.proofs.Common.{◌<◌}
use Rattle.sheet.specs.Kept.{contents_of}
use Rattle.checker.specs.Sealing.{GivenAt}
use Rattle.checker.proofs.Clear.{Clear}
use Rattle.checker.proofs.seals.is_given_before.Given as goal

abbrev pub invariant-loop-j : goal.invariant-loop-j
invariant-loop-j l = Clear (λ j. (j < l.number) × GivenAt (contents_of l.contents) l.bytes j) l.j
