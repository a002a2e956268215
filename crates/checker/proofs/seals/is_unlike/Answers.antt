-- What is told of the key, of the content and of the lines before decides.
use Rattle.std.proofs.Common.{◌≡◌, ℕ, List, rules, sym, ap, subst, ◌∙◌}
use Rattle.std.specs.Prelude.{Decides}
use Rattle.model.specs.Stored.{term_of}
use Rattle.sheet.specs.Kept.{contents_of}
use Rattle.checker.specs.Sealing.{GivenBefore, disagree}
use Rattle.checker.proofs.Unlikes.{told_else, told_then}
use Rattle.checker.proofs.seals.is_unlike.Goals as goal

pub returns-then-disagree : goal.returns-then-disagree
returns-then-disagree g c =
    let above : c.is_positive.result ≡ g.S.Scale.meaning.above c.args.line.now.rank = search rules in
    told_then g.S.Scale.meaning (contents_of c.args.contents.now) c.args.number c.args.line.now.rank c.args.line.now.what.first c.args.line.now.what.second (term_of c.args.line.now.what.content) c.args.variables.now
    c.in-Some.message c.in-Some.ensures c.is_positive_key-key.result c.is_positive-content.result c.is_positive_key-key.ensures c.is_positive-content.ensures
    (ap (disagree c.is_positive_key-key.result c.is_positive-content.result) (sym above) ∙ sym c.disagree.ensures ∙ c.if-disagree.true)
    c.is_given_before.result
    (subst (λ (bytes : List ℕ). Decides c.is_given_before.result (GivenBefore (contents_of c.args.contents.now) c.args.number bytes)) c.as_bytes.ensures.bytes c.is_given_before.ensures)

pub returns-else-disagree : goal.returns-else-disagree
returns-else-disagree g c =
    let above : c.is_positive.result ≡ g.S.Scale.meaning.above c.args.line.now.rank = search rules in
    rw c.if-disagree.false
    (told_else g.S.Scale.meaning (contents_of c.args.contents.now) c.args.number c.args.line.now.rank c.args.line.now.what.first c.args.line.now.what.second (term_of c.args.line.now.what.content) c.args.variables.now
    c.in-Some.message c.in-Some.ensures c.is_positive_key-key.result c.is_positive-content.result c.is_positive_key-key.ensures c.is_positive-content.ensures
    (ap (disagree c.is_positive_key-key.result c.is_positive-content.result) (sym above) ∙ sym c.disagree.ensures ∙ c.if-disagree.false))
