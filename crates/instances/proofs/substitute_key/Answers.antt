-- What is written is the whole key.
use Rattle.instances.specs.Writing.{values_of}
use Rattle.instances.proofs.Fronts.{key_whole}
use Rattle.instances.proofs.substitute_key.Goals as goal

pub returns : goal.returns
returns c = key_whole (values_of c.args.values.now) c.args.first c.args.second c.new-out.result c.new-out.ensures c.in_ok-write_key.ensures
