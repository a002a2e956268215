use Rattle.std.proofs.Common.{◌≡◌, rules, Some, None}
use Rattle.message.specs.Message.{IsMessage}
use Rattle.ranks.specs.PieceBytes.{front_piece}
use Rattle.ranks.proofs.Reading.{pending_first, pending_next, pending_last}
use Rattle.ranks.proofs.pieces.Pieces.of.Goals as goal

pub loop-piece-init : goal.loop-piece-init
loop-piece-init c =
    let m : IsMessage c.args.bytes.now = search rules in
    rw c.new-pieces.ensures (pending_first c.args.bytes.now m.0 m.1)

pub loop-piece-preserved : goal.loop-piece-preserved
loop-piece-preserved c =
    let front : front_piece c.loop-piece.rest.now ≡ Some (c.in-Some.piece, c.in-Some.after.now) = search rules in
    let next = pending_next c.args.bytes.now c.loop-piece.pieces c.loop-piece.rest.now c.loop-piece.invariant c.in-Some.piece c.in-Some.after.now front in
    rw c.push.ensures next.0

pub returns : goal.returns
returns c =
    let none : front_piece c.loop-piece.rest.now ≡ None = search rules in
    pending_last c.args.bytes.now c.loop-piece.pieces c.loop-piece.rest.now c.loop-piece.invariant none
