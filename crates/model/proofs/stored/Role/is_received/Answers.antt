use Rattle.std.proofs.Common.{rules, ◌∙◌}
use Rattle.std.proofs.lemmas.Iterator.{YieldsList-from_slice}
use Rattle.std.proofs.lemmas.Iterator.Search.{find_from_yields_List}
use Rattle.model.proofs.Standings.{received-found}
use Rattle.model.specs.Stored.{step_of}
use Rattle.model.specs.Variables.{stands_in_step}
use borrow.Author.Tests.{tests}
use Rattle.model.proofs.stored.Role.is_received.Goals as goal

pub returns : goal.returns
returns c =
    received-found c.args.variable c.args.self.now.steps.items c.find.result _
    (find_from_yields_List (λ s. stands_in_step c.args.variable (step_of s)) _ _ c.find.result c.find.ensures.ran (YieldsList-from_slice c.args.self.now.steps.items (c.iter.ensures.rest ∙ c.deref.ensures.value)) (λ x b q k. search (rules, tests)))
    (search rules)
