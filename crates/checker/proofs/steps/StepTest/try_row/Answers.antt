-- What the row shows is what its values show.
use Rattle.std.proofs.Common.{map, Some, sym, ap, ◌∙◌}
use Rattle.model.specs.Stored.{step_of}
use Rattle.sheet.specs.Kept.{contents_of}
use Rattle.checker.proofs.RowTrials.{row_first, row_none}
use Rattle.checker.proofs.steps.StepTest.try_row.Goals as goal

pub returns-in_err-step : goal.returns-in_err-step
returns-in_err-step g c =
    rw c.from_residual-in_err-step.ensures
    (row_none g.S.Scale.meaning (contents_of c.args.self.now.contents.now) c.args.self.now.agent c.args.self.now.slots.now (map step_of c.args.self.now.steps.now) c.args.row.now c.deref.result.now
    (sym c.in_ok-values.ensures ∙ ap Some (sym c.deref.ensures.0))
    c.in_err-step.ensures)

pub returns : goal.returns
returns g c = (
  row_first g.S.Scale.meaning (contents_of c.args.self.now.contents.now) c.args.self.now.agent c.args.self.now.slots.now (map step_of c.args.self.now.steps.now) c.args.row.now c.deref.result.now
      (sym c.in_ok-values.ensures ∙ ap Some (sym c.deref.ensures.0)) c.in_ok-step.step c.in_ok-step.ensures,
  sym c.in_ok-values.ensures,
)
