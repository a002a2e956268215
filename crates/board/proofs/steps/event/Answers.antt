use Rattle.std.proofs.Common.{None, Some, length, [], ◌∷◌, sym, ap, ◌∙◌, arith}
use Rattle.std.specs.Option.{option_map}
use Rattle.std.proofs.lemmas.Option.{slice_get-get_or}
use Rattle.instances.specs.Writing.{values_of}
use Rattle.model.specs.declared.node.Field.TheVariants as field
use Rattle.board.proofs.Keeping.{event_kept, no_event, place}
use Rattle.board.proofs.Placing.{placed_more}
use Rattle.board.proofs.steps.event.Goals as goal

pub returns-in_err-atom : goal.returns-in_err-atom
returns-in_err-atom c =
    let at = slice_get-get_or c.deref-field-items.result.now c.loop-i.i field.Player (omega arith) in
    let none = no_event (values_of c.args.values.now) c.args.signal.now.word c.deref-field-items.result.now c.loop-i.i _ at (sym c.atom.ensures ∙ c.in_err-atom.was) in
    rw c.from_residual.ensures (rw c.deref-field-items.ensures.value at none)

pub loop-i-preserved : goal.loop-i-preserved
loop-i-preserved c =
    let at = slice_get-get_or c.deref-field-items.result.now c.loop-i.i field.Player (omega arith) in
    let here = rw c.deref-field-items.ensures.value at at in
    let is = ap (option_map Some) (sym c.atom.ensures ∙ c.in_ok-atom.was) in
    placed_more (place (values_of c.args.values.now)) c.args.signal.now.fields.items (None ∷ None ∷ None ∷ None ∷ []) c.loop-i.atoms c.loop-i.i _ (Some c.in_ok-atom.field-0) c.loop-i.invariant here (rw c.deref-field-items.ensures.value at is) (omega (arith, c.requires, ap length c.deref-field-items.ensures.value))

pub returns : goal.returns
returns c =
    let same = ap length c.deref-field-items.ensures.value in
    event_kept (values_of c.args.values.now) c.args.signal.now.word c.args.signal.now.fields.items c.loop-i.i c.loop-i.atoms c.loop-i.invariant (omega (arith, same)) (omega (arith, same, c.requires, c.loop-i.auto.i-end))
