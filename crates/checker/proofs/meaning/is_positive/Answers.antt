-- The bytes are the message that the term is.
use Rattle.std.proofs.Common.{ℕ, List, subst}
use Rattle.std.specs.Prelude.{Decides}
use Rattle.instances.specs.Writing.{values_of}
use Rattle.model.specs.Stored.{term_of}
use Rattle.ranks.specs.Ranks.{IsPositive}
use Rattle.sheet.specs.Kept.{contents_of}
use Rattle.checker.proofs.Telling.{message_tells}
use Rattle.checker.proofs.meaning.is_positive.Goals as goal

pub returns : goal.returns
returns g c =
    message_tells g.S.Scale.meaning (contents_of c.args.contents.now) (values_of c.args.values.now) (term_of c.args.term.now) c.in_ok-message.message c.in_ok-message.ensures c.is_positive.result
    (subst (λ (bytes : List ℕ). Decides c.is_positive.result (IsPositive g.S.Scale.meaning (contents_of c.args.contents.now) bytes)) c.as_bytes.ensures.bytes c.is_positive.ensures)
