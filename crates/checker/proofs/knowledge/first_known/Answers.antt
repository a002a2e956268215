-- The lines before the one that is found are not bad.
use Rattle.std.proofs.Common.{rules}
use Rattle.std.proofs.lemmas.Iterator.{IsFirst-from_position, YieldsList-from_slice}
use Rattle.model.specs.Stored.{term_of}
use Rattle.sheet.specs.Kept.{contents_of}
use Rattle.checker.specs.Knowing.{TellsBad}
use Rattle.checker.proofs.Knowing.{first_kept}
use Rattle.checker.proofs.knowledge.first_known.Goals as goal

pub returns : goal.returns
returns g c =
    let sheet = contents_of c.args.contents.now in
    first_kept term_of (TellsBad g.S.Scale.meaning sheet) c.known.result.now sheet.known c.known.ensures _
    (IsFirst-from_position _ _ _ (λ t. TellsBad g.S.Scale.meaning sheet (term_of t)) (λ t. TellsBad g.S.Scale.meaning sheet (term_of t) → ⊥) c.position.ensures.ran (YieldsList-from_slice c.known.result.now (search rules)) (λ x q k. search rules) (λ x q k. search rules))
