use Rattle.std.proofs.Common.{rules}
use Rattle.medium.proofs.Enemies.{enemy_offers}
use Rattle.medium.proofs.enemy.EnemyMedium.offers.Goals as goal

pub returns-then-is_message : goal.returns-then-is_message
returns-then-is_message c = enemy_offers c.args.self.now c.args.bytes.now c.is_made.result c.as_slice.result.now c.as_slice-2.result.now (search rules) (search rules) (search rules) (search rules)
