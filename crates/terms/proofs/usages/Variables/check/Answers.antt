use Rattle.std.proofs.Common.{vec_items, rules, ◌∙◌}
use Rattle.std.proofs.lemmas.Slice.Zip.{zip_end}
use Rattle.terms.proofs.Standing.{checked-end}
use Rattle.terms.proofs.usages.Variables.check.Goals as goal

pub returns : goal.returns
returns c =
    c.loop-variable.invariant
    ∙ checked-end _ _ _ (zip_end (vec_items c.args.self.now.list) (vec_items c.args.self.now.usages) c.loop-variable.yielded c.into_iter-variable-iterator.result c.loop-variable.variable-iterator c.next.new.self c.next.result (search rules) (search rules) c.loop-variable.yielded_by c.in-None.is c.next.ensures.steps)
