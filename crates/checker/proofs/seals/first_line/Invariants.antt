-- No line so far is bad.
use Rattle.message.specs.declared.Atom.{Atom}
use Rattle.std.proofs.Common.{List, Option}
use Rattle.sheet.specs.Kept.{contents_of}
use Rattle.checker.specs.Verdicts.{BadSeal}
use Rattle.checker.proofs.Clear.{Clear}
use Rattle.checker.proofs.seals.first_line.Given as goal

abbrev pub invariant-loop-line : goal.invariant-loop-line
invariant-loop-line g l = Clear (λ i. (values : List (Option Atom)) × BadSeal g.S.Scale.meaning (contents_of l.contents) i values) l.line
