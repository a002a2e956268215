use Rattle.std.proofs.Common.{None, [], ◌∷◌, sym, ◌∙◌, arith}
use Rattle.std.proofs.lemmas.Option.{slice_get-get_or}
use Rattle.model.specs.Stored.{role_of}
use Rattle.sheet.specs.Kept.{contents_of}
use Rattle.board.specs.Starts.{slot_of}
use Rattle.board.proofs.Placing.{each_missing, placed_more, placed_whole}
use Rattle.board.proofs.start.Part.slots.Goals as goal

pub returns-in_err-slots : goal.returns-in_err-slots
returns-in_err-slots c =
    let at = slice_get-get_or c.args.numbers c.loop-i.i 0 (omega arith) in
    c.from_residual.ensures
    ∙ sym
    (each_missing (slot_of (contents_of c.args.self.now.contents.now) c.args.self.now.number c.args.self.now.agent (role_of c.args.self.now.role.now)) c.loop-i.i c.args.numbers _ at (sym c.slot.ensures ∙ c.in_err-slots.was))

pub loop-i-preserved : goal.loop-i-preserved
loop-i-preserved c =
    let at = slice_get-get_or c.args.numbers c.loop-i.i 0 (omega arith) in
    placed_more (slot_of (contents_of c.args.self.now.contents.now) c.args.self.now.number c.args.self.now.agent (role_of c.args.self.now.role.now)) c.args.numbers (None ∷ None ∷ None ∷ None ∷ None ∷ []) c.loop-i.slots c.loop-i.i _ c.in_ok-slots.field-0 c.loop-i.invariant at (sym c.slot.ensures ∙ c.in_ok-slots.was) (omega arith)

pub returns : goal.returns
returns c =
    placed_whole (slot_of (contents_of c.args.self.now.contents.now) c.args.self.now.number c.args.self.now.agent (role_of c.args.self.now.role.now)) c.args.numbers (None ∷ None ∷ None ∷ None ∷ None ∷ []) c.loop-i.slots c.loop-i.i c.loop-i.invariant (omega arith) (omega arith)
