use Rattle.std.proofs.Common.{◌≡◌, rules, [], map, option_map, find, sym, ap, ◌∙◌}
use Rattle.std.proofs.lemmas.Iterator.{YieldsList-from_slice}
use Rattle.std.proofs.lemmas.Iterator.Search.{find_from_yields_List}
use Rattle.model.specs.declared.stored.Ranked as stored
use Rattle.model.specs.declared.stored.Sealed.{Sealed}
use Rattle.model.specs.Stored.{sealed_of, variable_of}
use Rattle.model.specs.Trees.{prefix}
use Rattle.ranks.specs.Matching.{solves}
use Rattle.ranks.proofs.Searching.{first_kept}
use Rattle.ranks.proofs.compute.first_seal.Goals as goal

pub returns : goal.returns
returns c =
    let passes = λ (r : stored.Ranked Sealed). solves (map variable_of c.args.free.now) [] (prefix (sealed_of r.what)) c.args.pieces.now in
    let found : option_map (λ r. r.now) c.find.result ≡ find passes c.args.seals.now = find_from_yields_List passes _ _ c.find.result c.find.ensures.ran (YieldsList-from_slice c.args.seals.now cc) (λ x b q k. search rules) in
    let mapped : c.map.result ≡ option_map (λ (r : stored.Ranked Sealed). r.rank) (option_map (λ r. r.now) c.find.result) = search rules in
    mapped ∙ ap (option_map (λ (r : stored.Ranked Sealed). r.rank)) found ∙ sym (first_kept sealed_of (λ t. solves (map variable_of c.args.free.now) [] (prefix t) c.args.pieces.now) c.args.seals.now)
