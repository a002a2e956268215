use Rattle.terms.specs.Scopes.{progress_of, scope_of}
use Rattle.terms.proofs.TermWords.{TermSofar}
use Rattle.terms.proofs.reader.read_nodes.Given as goal

abbrev pub invariant-loop-i : goal.invariant-loop-i
invariant-loop-i l = TermSofar (scope_of l.scope) l.place l.words (progress_of l.progress) l.i
