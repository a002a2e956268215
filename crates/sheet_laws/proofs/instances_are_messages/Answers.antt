use Rattle.sheet_laws.proofs.Messaging.{instances_are_messages}
use Rattle.sheet_laws.proofs.instances_are_messages.Goals as goal

pub returns : goal.returns
returns c = instances_are_messages
