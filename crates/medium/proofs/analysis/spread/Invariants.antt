use Rattle.sheet.specs.Kept.{contents_of}
use Rattle.medium.proofs.Spreading.{Through}
use Rattle.medium.proofs.analysis.spread.Given as goal

abbrev pub invariant-loop-i : goal.invariant-loop-i
invariant-loop-i l = Through (contents_of l.sheet) l.bytes l.other.bytes.now l.other.marks.now l.from l.i l.initial.marks l.marks l.fresh
