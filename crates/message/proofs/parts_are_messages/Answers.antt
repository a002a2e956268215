use Rattle.message.proofs.Apart.{whole_parts}
use Rattle.message.proofs.parts_are_messages.Goals as goal

pub returns : goal.returns
returns c = whole_parts
