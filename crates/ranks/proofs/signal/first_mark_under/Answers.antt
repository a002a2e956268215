use Rattle.std.proofs.Common.{◌≡◌, rules, option_map, find, sym, ap, ◌∙◌}
use Rattle.std.proofs.lemmas.Iterator.{YieldsList-from_slice}
use Rattle.std.proofs.lemmas.Iterator.Search.{find_from_yields_List}
use Rattle.model.specs.declared.stored.Ranked as stored
use Rattle.model.specs.declared.stored.Signal.{Signal}
use Rattle.instances.specs.Writing.{values_of}
use Rattle.model.specs.Stored.{signal_of}
use Rattle.ranks.specs.Matching.{is_event_under}
use Rattle.ranks.proofs.Searching.{first_kept}
use Rattle.ranks.proofs.signal.first_mark_under.Goals as goal

pub returns : goal.returns
returns c =
    let passes = λ (r : stored.Ranked Signal). is_event_under (values_of c.args.values.now) (signal_of r.what) (signal_of c.args.signal.now) in
    let found : option_map (λ r. r.now) c.find.result ≡ find passes c.args.marks.now = find_from_yields_List passes _ _ c.find.result c.find.ensures.ran (YieldsList-from_slice c.args.marks.now cc) (λ x b q k. search rules) in
    let mapped : c.map.result ≡ option_map (λ (r : stored.Ranked Signal). r.rank) (option_map (λ r. r.now) c.find.result) = search rules in
    mapped ∙ ap (option_map (λ (r : stored.Ranked Signal). r.rank)) found ∙ sym (first_kept signal_of (λ s. is_event_under (values_of c.args.values.now) s (signal_of c.args.signal.now)) c.args.marks.now)
