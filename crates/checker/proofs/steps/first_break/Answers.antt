-- Each step shows what the step of its number does.
use Rattle.std.proofs.Common.{map, arith}
use Rattle.instances.specs.Writing.{values_of}
use Rattle.model.specs.Stored.{step_of}
use Rattle.sheet.specs.Kept.{contents_of}
use Rattle.checker.specs.declared.steps.Found.TheVariants as found
use Rattle.checker.specs.Trying.{done}
use Rattle.checker.proofs.Trials.{broken_first, done_past, excused_none, item_shows, kept_more, kept_none}
use Rattle.checker.proofs.steps.first_break.Goals as goal

pub returns-in-Broken : goal.returns-in-Broken
returns-in-Broken g c =
    broken_first g.S.Scale.meaning (contents_of c.args.contents.now) (done (values_of c.args.values.now) (map step_of c.args.steps.now)) c.loop-k.k c.loop-k.invariant
    (item_shows g.S.Scale.meaning (contents_of c.args.contents.now) (values_of c.args.values.now) c.args.steps.now c.loop-k.k c.index-steps-k.result found.Broken (omega arith) c.index-steps-k.is c.in-Broken.ensures)

pub returns-in-Excused : goal.returns-in-Excused
returns-in-Excused g c =
    excused_none g.S.Scale.meaning (contents_of c.args.contents.now) (done (values_of c.args.values.now) (map step_of c.args.steps.now)) c.loop-k.k c.loop-k.invariant
    (item_shows g.S.Scale.meaning (contents_of c.args.contents.now) (values_of c.args.values.now) c.args.steps.now c.loop-k.k c.index-steps-k.result found.Excused (omega arith) c.index-steps-k.is c.in-Excused.ensures)

pub loop-k-preserved : goal.loop-k-preserved
loop-k-preserved g c =
    kept_more g.S.Scale.meaning (contents_of c.args.contents.now) (done (values_of c.args.values.now) (map step_of c.args.steps.now)) c.loop-k.k c.loop-k.invariant
    (item_shows g.S.Scale.meaning (contents_of c.args.contents.now) (values_of c.args.values.now) c.args.steps.now c.loop-k.k c.index-steps-k.result found.Kept (omega arith) c.index-steps-k.is c.in-Kept.ensures)

pub returns : goal.returns
returns g c =
    kept_none g.S.Scale.meaning (contents_of c.args.contents.now) (done (values_of c.args.values.now) (map step_of c.args.steps.now)) c.loop-k.k c.loop-k.invariant
    (λ j past. done_past (values_of c.args.values.now) c.args.steps.now j (omega arith))
