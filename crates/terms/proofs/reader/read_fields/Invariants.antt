use Rattle.std.proofs.Common.{vec_items}
use Rattle.terms.specs.Scopes.{scope_of}
use Rattle.terms.proofs.TermWords.{FieldsSofar}
use Rattle.terms.proofs.reader.read_fields.Given as goal

abbrev pub invariant-loop-word : goal.invariant-loop-word
invariant-loop-word l = FieldsSofar (scope_of l.scope) l.words (vec_items l.fields) l.word-index
