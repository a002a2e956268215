use Rattle.std.proofs.Common.{vec_items, rules, ◌∙◌}
use Rattle.std.proofs.lemmas.Iterator.{YieldsList-from_slice}
use Rattle.std.proofs.lemmas.Iterator.Search.{any_from_yields_List}
use Rattle.terms.specs.Same.{same_signal}
use Rattle.model.specs.Stored.{signal_of}
use Rattle.draft.proofs.Ranking.{any-signal}
use Rattle.draft.specs.Kept.{table_of}
use Rattle.draft.proofs.table.Table.is_marked.Goals as goal

pub returns : goal.returns
unfolding table_of
returns c =
    any_from_yields_List (λ r. same_signal (signal_of r.what) (signal_of c.args.signal.now)) _ _ c.any.result c.any.ensures.ran (YieldsList-from_slice (vec_items c.args.self.now.marks) cc) (λ x b q k. search rules)
    ∙ any-signal (vec_items c.args.self.now.marks) (signal_of c.args.signal.now)
