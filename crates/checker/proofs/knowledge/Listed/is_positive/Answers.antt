-- The bytes that are written are those of what is listed.
use Rattle.std.proofs.Common.{rules, List, ℕ, sym, subst}
use Rattle.message.specs.Message.{Reads}
use Rattle.sheet.specs.Kept.{contents_of}
use Rattle.checker.specs.Knowing.{msg_of}
use Rattle.checker.proofs.Knowing.{reads_positive}
use Rattle.checker.proofs.knowledge.Listed.is_positive.Goals as goal

pub returns-in-Ok : goal.returns-in-Ok
returns-in-Ok g c =
    let reads : Reads c.as_bytes.result.now (msg_of c.args.self) = subst (λ (bytes : List ℕ). Reads bytes (msg_of c.args.self)) (sym c.as_bytes.ensures.bytes) (search rules) in
    reads_positive g.S.Scale.meaning (contents_of c.args.contents.now) c.as_bytes.result.now (msg_of c.args.self) c.is_positive.result reads c.is_positive.ensures
