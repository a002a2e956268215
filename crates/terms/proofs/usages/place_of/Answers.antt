use Rattle.std.proofs.Common.{◌≡◌, rules, ap, ◌∙◌}
use Rattle.std.proofs.lemmas.Iterator.{YieldsList-from_slice}
use Rattle.std.proofs.lemmas.Iterator.Search.{find_from_yields_List}
use Rattle.std.specs.List.{find}
use Rattle.std.specs.Option.{option_map}
use Rattle.std.specs.Str.{bytes_eq}
use Rattle.lexer.specs.declared.Word.{Word}
use Rattle.terms.proofs.Standing.{place-found}
use Rattle.terms.proofs.usages.place_of.Goals as goal

pub returns : goal.returns
returns c =
    let found : option_map (λ w. w.now) c.find.result ≡ find (λ (w : Word). bytes_eq w.text.now c.args.name.now) c.args.words.now = find_from_yields_List (λ w. bytes_eq w.text.now c.args.name.now) _ _ c.find.result c.find.ensures.ran (YieldsList-from_slice c.args.words.now cc) (λ x b q k. search rules) in
    let mapped : c.map.result ≡ option_map (λ (w : Word). w.place) (option_map (λ w. w.now) c.find.result) = search rules in
    mapped ∙ ap (option_map (λ (w : Word). w.place)) found ∙ place-found c.args.words.now c.args.name.now
