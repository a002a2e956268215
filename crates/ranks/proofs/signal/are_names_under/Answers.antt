use Rattle.std.proofs.Common.{◌≡◌, ◌&&◌, ◌==◌, rules, length, zip, true, ap, ◌∙◌, sym}
use Rattle.std.specs.List.{list_all}
use Rattle.std.proofs.lemmas.Iterator.{YieldsList-from_slice, YieldsList-from_zip}
use Rattle.std.proofs.lemmas.Iterator.Search.{all_from_yields_List}
use Rattle.instances.specs.Substitution.{value}
use Rattle.instances.specs.Writing.{values_of}
use Rattle.model.specs.declared.node.Field.{Field}
use Rattle.ranks.specs.Matching.{is_name_of}
use Rattle.ranks.proofs.signal.are_names_under.Goals as goal

pub returns-then-names-fields : goal.returns-then-names-fields
returns-then-names-fields c =
    let passes = λ (p : Field × Field). is_name_of p.0 (value (values_of c.args.values.now) p.1) in
    let all : c.all.result ≡ list_all passes (zip c.args.names.now c.args.fields.now) = all_from_yields_List passes c.all.new.self _ c.all.result c.all.ensures.ran (YieldsList-from_zip (YieldsList-from_slice c.args.names.now cc) (YieldsList-from_slice c.args.fields.now cc)) (λ x b q k. search rules) in
    let same : (length c.args.names.now == length c.args.fields.now) ≡ true = search rules in
    all ∙ ap (λ t. t && list_all passes (zip c.args.names.now c.args.fields.now)) (sym same)
