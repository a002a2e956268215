use Rattle.std.proofs.Common.{sym, ◌∙◌}
use Rattle.std.proofs.lemmas.Bool.{and_parts, leb-true}
use Rattle.model.proofs.Trees.{prefix_tree}
use Rattle.model.proofs.term.Term.nodes.Goals as goal

pub returns : goal.returns
returns c =
    let whole = and_parts _ _ c.args.self.now.whole in
    record {
      order = c.as_slice.ensures.value ∙ sym (prefix_tree _ whole.0);
      short = rw c.as_slice.ensures.value (leb-true _ 32 whole.1);
    }
