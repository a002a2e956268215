use Rattle.std.proofs.Common.{vec_items, rules, ◌∙◌}
use Rattle.std.proofs.lemmas.Iterator.{YieldsList-from_slice}
use Rattle.std.proofs.lemmas.Iterator.Search.{any_from_yields_List}
use Rattle.terms.specs.Same.{same_atom}
use Rattle.draft.proofs.Ranking.{any-atom}
use Rattle.draft.specs.Kept.{table_of}
use Rattle.draft.proofs.table.Table.is_ranked.Goals as goal

pub returns : goal.returns
unfolding table_of
returns c =
    any_from_yields_List (λ r. same_atom r.what c.args.atom) _ _ c.any.result c.any.ensures.ran (YieldsList-from_slice (vec_items c.args.self.now.atoms) cc) (λ x b q k. search rules)
    ∙ any-atom (vec_items c.args.self.now.atoms) c.args.atom
