use Rattle.honest_contact.proofs.Carrying.{made_enemy_carries}
use Rattle.honest_contact.proofs.over.new_enemy.Goals as goal

pub returns-clause-carries : goal.returns-clause-carries
returns-clause-carries c = made_enemy_carries _ c.args.area c.args.marks c.new.result c.new.ensures
