use Rattle.std.proofs.Common.{arith}
use Rattle.short_bytes.proofs.Appending.{length_is, zeros_are}
use Rattle.short_bytes.proofs.ShortBytes.append.Goals as goal

pub invariant_of-self : goal.invariant_of-self
invariant_of-self g c =
    let (few, long, zeros) = c.self.invariant in
    let fits = c.if-piece-from.false in
    let bytes = c.self.inside.bytes in
    rw c.copy_from_slice.ensures.after
    (omega (arith, few, fits), length_is _ _ bytes c.args.piece.now few long zeros fits, zeros_are _ _ bytes c.args.piece.now few long zeros fits)
