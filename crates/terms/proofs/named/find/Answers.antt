use Rattle.std.proofs.Common.{rules, ◌∙◌}
use Rattle.std.proofs.lemmas.Iterator.{YieldsList-from_slice}
use Rattle.std.proofs.lemmas.Iterator.Search.{position_from_yields_List}
use Rattle.std.specs.Str.{bytes_eq}
use Rattle.terms.proofs.Finding.{index_of-position}
use borrow.Author.Tests.{tests}
use Rattle.terms.proofs.named.find.Goals as goal

pub returns : goal.returns
returns g c =
    position_from_yields_List (λ x. bytes_eq (g.T.Named.name (g.T.Named.meaning x)) c.args.word.now) _ _ c.position.result c.position.ensures.ran (YieldsList-from_slice c.args.things.now c.iter.ensures.rest) (λ x b q k. search (rules, tests))
    ∙ index_of-position g.T.Named.meaning g.T.Named.name c.args.word.now c.args.things.now
