use Rattle.std.proofs.Common.{length, min, refl, arith, rules}
use Rattle.sheet.specs.Kept.{contents_of}
use Rattle.medium.proofs.Enemies.{analysed_more, enemy_takes}
use Rattle.medium.proofs.Relaying.{admits_room, some_bytes}
use Rattle.medium.specs.Store.{Admits, counted}
use Rattle.medium.proofs.enemy.EnemyMedium.take.Goals as goal

pub hear-requires-clause-some : goal.hear-requires-clause-some
hear-requires-clause-some c = some_bytes _ _ _ (c.admits.ensures.0 (search rules))

pub invariant_of-self : goal.invariant_of-self
invariant_of-self c =
    let s = c.args.self.now in
    let admitted : Admits (counted (min (length s.area.now) (length s.marks.now))) s.used c.args.bytes.now = search rules in
    let room = admits_room _ _ _ admitted in
    record {
      analysed = analysed_more (contents_of s.sheet.now) s.used s.area.now s.marks.now s.told.bytes.items s.told.marks.items c.hear.new.area c.hear.new.marks c.hear.new.told.bytes.items c.hear.new.told.marks.items c.args.bytes.now _ (search rules) s.analysed admitted
          (record { room = omega (arith, room); marks-room = omega (arith, room); put = c.hear.ensures.put; told-same = c.hear.ensures.told; learns = c.hear.ensures.learnt; marks-long = c.hear.auto.marks })
          c.hear.auto.area;
    }

pub returns : goal.returns
returns c =
    let s = c.args.self.now in
    let admitted : Admits (counted (min (length s.area.now) (length s.marks.now))) s.used c.args.bytes.now = search rules in
    let room = admits_room _ _ _ admitted in
    enemy_takes s _ c.args.bytes.now admitted refl (search rules)
    (record { room = omega (arith, room); marks-room = omega (arith, room); put = c.hear.ensures.put; told-same = c.hear.ensures.told; learns = c.hear.ensures.learnt; marks-long = c.hear.auto.marks })
    c.hear.ensures.behind refl refl
