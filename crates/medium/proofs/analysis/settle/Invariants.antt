use Rattle.std.proofs.Common.{◌≡◌, ◌+◌, cond, false}
use Rattle.sheet.specs.Kept.{contents_of}
use Rattle.medium.specs.Spreading.{Apart, Both, unmarked}
use Rattle.medium.proofs.analysis.settle.Given as goal

abbrev pub invariant-loop-again : goal.invariant-loop-again
invariant-loop-again l = record {
  grows : Both (contents_of l.sheet) l.bytes l.told l.initial.marks l.initial.told_marks l.marks l.told_marks;
  apart : l.again ≡ false → (l.fresh ≡ false → Apart (contents_of l.sheet) l.bytes l.initial.marks l.told l.initial.told_marks) → Apart (contents_of l.sheet) l.bytes l.marks l.told l.told_marks;
}

abbrev pub decreases-loop-again : goal.decreases-loop-again
decreases-loop-again l = unmarked l.marks + unmarked l.told_marks + cond l.again 1 0
