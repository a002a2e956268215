use Rattle.std.proofs.Common.{◌≡◌, true, rules, sym, ◌∙◌}
use Rattle.model.specs.Names.{is_name}
use Rattle.model.proofs.Naming.{name-short}
use Rattle.draft.proofs.cast.new_name.Goals as goal

pub returns : goal.returns
returns c =
    let named : true ≡ is_name c.args.word.text.now = sym c.if-not-is_name.false ∙ c.is_name.ensures in
    (search rules, c.new.ensures ∙ name-short c.args.word.text.now named)
