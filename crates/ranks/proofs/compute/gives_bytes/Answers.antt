-- The pieces are those of the message that the bytes are.
use Rattle.std.proofs.Common.{map, ◌∙◌}
use Rattle.model.specs.Stored.{sealed_of, variable_of}
use Rattle.ranks.proofs.Givings.{bytes_given}
use Rattle.ranks.proofs.compute.gives_bytes.Goals as goal

pub returns : goal.returns
returns c =
    let (m, reads, is) = c.in-Some.ensures in
    rw c.gives.ensures (bytes_given (map variable_of c.args.free.now) (sealed_of c.args.seal.now) c.args.bytes.now m reads c.as_slice.result.now (c.as_slice.ensures.all ∙ is))
