use Rattle.std.proofs.Common.{◌≡◌, map, vec_items}
use Rattle.lexer.specs.Text.{words_of}
use Rattle.terms.specs.Usages.{note_all}
use Rattle.model.specs.Stored.{variable_of}
use Rattle.terms.proofs.Standing.{note_from}
use Rattle.terms.proofs.usages.Variables.note.Given as goal

abbrev pub invariant-loop-i : goal.invariant-loop-i
invariant-loop-i l =
    note_all (map variable_of (vec_items l.fn.self.list)) (vec_items l.fn.self.usages) (words_of l.words) l.received
    ≡ note_from (vec_items l.fn.self.list) (words_of l.words) l.received l.i (vec_items l.self.1.1.0)
