-- The lines before the one that is found are not bad.
use Rattle.std.proofs.Common.{rules, sym, ◌∙◌}
use Rattle.std.proofs.lemmas.Iterator.{IsFirst-from_position, YieldsList-from_slice}
use Rattle.std.proofs.lemmas.Simd.{map-map}
use Rattle.model.specs.declared.node.Node.{Node}
use Rattle.model.specs.declared.stored.Ranked.{Ranked}
use Rattle.model.specs.Stored.{ranked_of}
use Rattle.sheet.specs.Kept.{contents_of}
use Rattle.sheet.specs.Sheets.{atom_of}
use Rattle.checker.specs.Knowing.{ListsBad}
use Rattle.checker.proofs.Knowing.{first_kept}
use Rattle.checker.proofs.knowledge.first_ranked.Goals as goal

pub returns : goal.returns
returns g c =
    let sheet = contents_of c.args.contents.now in
    first_kept (λ (r : Ranked Node). atom_of (ranked_of (λ n. n) r)) (λ l. ListsBad g.S.Scale.meaning sheet l.what) c.atoms.result.now sheet.atoms (sym (map-map atom_of (ranked_of (λ n. n)) c.atoms.result.now) ∙ c.atoms.ensures) _
    (IsFirst-from_position _ _ _ (λ r. ListsBad g.S.Scale.meaning sheet (atom_of (ranked_of (λ n. n) r)).what) (λ r. ListsBad g.S.Scale.meaning sheet (atom_of (ranked_of (λ n. n) r)).what → ⊥) c.position.ensures.ran (YieldsList-from_slice c.atoms.result.now (search rules)) (λ x q k. search rules) (λ x q k. search rules))
