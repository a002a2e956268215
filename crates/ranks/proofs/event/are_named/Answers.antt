use Rattle.std.proofs.Common.{◌≡◌, ◌&&◌, ◌==◌, rules, length, zip, [], true, ap, ◌∙◌, sym}
use Rattle.std.specs.List.{list_all}
use Rattle.std.proofs.lemmas.Iterator.{YieldsList-from_slice, YieldsList-from_zip}
use Rattle.std.proofs.lemmas.Iterator.Search.{all_from_yields_List}
use Rattle.message.specs.declared.Atom.{Atom}
use Rattle.model.specs.declared.node.Field.{Field}
use Rattle.ranks.specs.Matching.{may_stand}
use Rattle.ranks.proofs.event.are_named.Goals as goal

pub returns-then-fields-atoms : goal.returns-then-fields-atoms
returns-then-fields-atoms c =
    let passes = λ (p : Field × Atom). may_stand [] [] p.0 p.1 in
    let all : c.all.result ≡ list_all passes (zip c.args.fields.now c.args.atoms.now) = all_from_yields_List passes c.all.new.self _ c.all.result c.all.ensures.ran (YieldsList-from_zip (YieldsList-from_slice c.args.fields.now cc) (YieldsList-from_slice c.args.atoms.now cc)) (λ x b q k. search rules) in
    let same : (length c.args.fields.now == length c.args.atoms.now) ≡ true = search rules in
    all ∙ ap (λ t. t && list_all passes (zip c.args.fields.now c.args.atoms.now)) (sym same)
