use Rattle.std.proofs.Common.{◌≡◌, ◌++◌, length, refl, arith, rules, ap}
use Rattle.std.proofs.lemmas.List.{nil_from_length, take_at}
use Rattle.sheet.specs.Kept.{contents_of}
use Rattle.medium.proofs.Enemies.{enemy_silent, settled_from, started, told_long}
use Rattle.medium.proofs.enemy.Enemy.new.Goals as goal

pub settle-requires-clause-told_long : goal.settle-requires-clause-told_long
settle-requires-clause-told_long c = told_long (contents_of c.args.sheet.now) _ _ _ _ c.in_ok-told.ensures c.as_slice.ensures.value c.as_mut_slice.ensures.value

pub invariant_of-result : goal.invariant_of-result
invariant_of-result c =
    let long : length c.settle.new.told_marks ≡ c.in_ok-told.told.marks.len = search rules in
    let none : length c.settle.new.marks ≡ 0 = search rules in
    record { analysed = (omega arith, started (contents_of c.args.sheet.now) c.args.area.now c.in_ok-told.told.bytes.items c.in_ok-told.told.marks.items c.settle.new.marks c.settle.new.told_marks _ c.in_ok-told.ensures (settled_from (contents_of c.args.sheet.now) c.as_slice.result.now _ c.as_mut_slice.result.now _ c.settle.new.marks c.settle.new.told_marks c.as_slice.ensures.value c.as_mut_slice.ensures.value (search rules)) none (take_at c.settle.new.told_marks _ c.in_ok-told.told.marks.len long)) }

pub returns : goal.returns
returns c = record { on = refl; silent = enemy_silent _ refl; area-is = refl; same-area = refl; marks-are = let none : length c.settle.new.marks ≡ 0 = search rules in ap (λ l. l ++ c.args.marks.now) (nil_from_length c.settle.new.marks none); same-marks = refl }
