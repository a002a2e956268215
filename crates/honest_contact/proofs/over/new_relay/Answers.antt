use Rattle.honest_contact.proofs.Carrying.{new_relay_carries}
use Rattle.honest_contact.proofs.over.new_relay.Goals as goal

pub returns-clause-carries : goal.returns-clause-carries
returns-clause-carries c long = new_relay_carries c.new.ensures long
