use Rattle.std.proofs.Common.{◌∙◌, Some, sym, ap, subst}
use Rattle.board.specs.Boards.{Moves}
use Rattle.board.specs.Sends.{sending, to_send}
use Rattle.board.specs.Steps.{Spells, next_action, sent}
use Rattle.board.proofs.Spelling.{one_message}
use Rattle.board.proofs.board.Board.try_send.Goals as goal

pub returns : goal.returns
returns g c =
    let b = c.args.self.now in
    let s = c.in_ok-session.session in
    let at = sym c.get.ensures ∙ c.in_ok-session.ensures.ok_part in
    let (m, is, reads) = subst (Spells (sent (next_action b.sheet.now s))) c.in_ok-message.ensures.ok_part c.next_message.ensures.message in
    let (n, taken, steps) = c.in_ok-take.ensures in
    let same = one_message m n reads (rw c.as_bytes.ensures.bytes at taken) in
    let there = ap (to_send b.sheet.now) at ∙ ap (sending s) (is ∙ ap Some same) in
    (record { session = s; message = n }, there, rw same at reads, steps, subst (λ t. Moves c.args.number t b c.put.new.self) c.moved.ensures c.put.ensures)
