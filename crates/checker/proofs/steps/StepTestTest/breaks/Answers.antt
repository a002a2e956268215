-- A row breaks the test where a first step that breaks the condition is found.
use Rattle.std.proofs.Common.{map}
use Rattle.model.specs.Stored.{step_of}
use Rattle.sheet.specs.Kept.{contents_of}
use Rattle.checker.proofs.RowTrials.{row_decides}
use Rattle.checker.proofs.steps.StepTestTest.breaks.Goals as goal

pub returns : goal.returns
returns g c =
    rw c.is_some.ensures
    (row_decides g.S.Scale.meaning (contents_of c.args.self.now.contents.now) c.args.self.now.agent c.args.self.now.slots.now (map step_of c.args.self.now.steps.now) c.args.row.now c.try_row.result c.try_row.ensures)
