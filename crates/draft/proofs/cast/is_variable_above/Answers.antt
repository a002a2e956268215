use Rattle.std.proofs.Common.{◌∙◌, rules}
use Rattle.std.proofs.lemmas.Iterator.{YieldsList-from_slice}
use Rattle.std.proofs.lemmas.Iterator.Search.{any_from_yields_List}
use Rattle.model.specs.Stored.{role_of}
use Rattle.terms.specs.Terms.{has, variable_names}
use Rattle.draft.proofs.Casts.{any-above}
use Rattle.draft.proofs.cast.is_variable_above.Goals as goal

pub returns : goal.returns
returns c =
    any_from_yields_List (λ r. has (variable_names (role_of r).variables) c.args.word.now) _ _ c.any.result c.any.ensures.ran (YieldsList-from_slice c.args.roles.now cc) (λ x b q k. search rules)
    ∙ any-above c.args.roles.now c.args.word.now
