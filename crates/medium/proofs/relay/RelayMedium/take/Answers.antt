use Rattle.std.proofs.Common.{refl, rules}
use Rattle.medium.proofs.Relaying.{relay_takes}
use Rattle.medium.proofs.relay.RelayMedium.take.Goals as goal

pub returns : goal.returns
returns c = relay_takes c.args.self.now _ c.args.bytes.now (search rules) refl (search rules) (search rules) refl
