use Rattle.std.proofs.Common.{◌≡◌, rules, [], ◌∷◌, option_map, find, sym, ap, ◌∙◌}
use Rattle.std.proofs.lemmas.Iterator.{YieldsList-from_slice}
use Rattle.std.proofs.lemmas.Iterator.Search.{find_from_yields_List}
use Rattle.model.specs.declared.stored.Ranked as stored
use Rattle.model.specs.declared.node.Node.{Node}
use Rattle.model.specs.Trees.{prefix, tree}
use Rattle.ranks.specs.Matching.{solves}
use Rattle.ranks.proofs.Searching.{first_atom_kept}
use Rattle.ranks.proofs.compute.first_atom.Goals as goal

pub returns : goal.returns
returns c =
    let passes = λ (r : stored.Ranked Node). solves [] [] (prefix (tree (r.what ∷ []))) c.args.pieces.now in
    let found : option_map (λ r. r.now) c.find.result ≡ find passes c.args.atoms.now = find_from_yields_List passes _ _ c.find.result c.find.ensures.ran (YieldsList-from_slice c.args.atoms.now cc) (λ x b q k. search rules) in
    let mapped : c.map.result ≡ option_map (λ (r : stored.Ranked Node). r.rank) (option_map (λ r. r.now) c.find.result) = search rules in
    mapped ∙ ap (option_map (λ (r : stored.Ranked Node). r.rank)) found ∙ sym (first_atom_kept (λ t. solves [] [] (prefix t) c.args.pieces.now) c.args.atoms.now)
