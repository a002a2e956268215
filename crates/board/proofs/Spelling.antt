-- Bytes are the form of one message.
use Rattle.std.proofs.Common.{◌≡◌, List, [], ◌++◌, ℕ, sym, ap, ◌∙◌}
use Rattle.message.specs.Message.{Msg, Reads}
use Rattle.message.proofs.Shapes.{unique}

pub one_message : {bytes : List ℕ} (m k : Msg) → Reads bytes m → Reads bytes k → m ≡ k
one_message m k r s = (unique m k [] [] (ap (λ l. l ++ []) (r.form ∙ sym s.form))).0
