use Rattle.std.proofs.Common.{◌≡◌, ◌+◌, ◌-◌, length, refl, arith, rules, length-take}
use Rattle.std.proofs.lemmas.List.{take_at}
use Rattle.sheet.specs.Kept.{contents_of}
use Rattle.medium.proofs.Areas.{part_behind, part_learnt}
use Rattle.medium.proofs.enemy.hear.Goals as goal

pub returns-clause-learnt : goal.returns-clause-learnt
returns-clause-learnt c =
    let end = c.args.used + length c.args.bytes.now + 1 in
    let long : length c.learn.new.marks ≡ end = omega (arith, c.learn.auto.marks, length-take (end - 0) c.clear.new.area, c.clear.auto.area) in
    let told_long : length c.learn.new.told_marks ≡ c.args.told.now.marks.len = search rules in
    part_learnt c.args.used (length c.args.bytes.now) end refl c.args.marks.now c.clear.new.area c.requires.marks_room c.clear.ensures (contents_of c.args.sheet.now) c.put.new.area c.as_slice.result.now _ c.as_mut_slice.result.now _ c.learn.new.marks c.learn.new.told_marks _ _ (c.args.used + 1) (search rules) c.as_slice.ensures.value c.as_mut_slice.ensures.value
    (take_at c.learn.new.marks _ end long)
    (take_at c.learn.new.told_marks _ c.args.told.now.marks.len told_long)

pub returns-clause-behind : goal.returns-clause-behind
returns-clause-behind c =
    part_behind c.args.used (length c.args.bytes.now) (c.args.used + length c.args.bytes.now + 1) refl c.args.marks.now c.clear.new.area c.requires.marks_room c.clear.ensures c.learn.new.marks c.learn.auto.marks c.clear.auto.area
