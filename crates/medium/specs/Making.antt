-- What is made from what two rows know, by pairing and sealing.
use Rattle.std.specs.Prelude.{ℕ, Bool, Decides, List}
use Rattle.message.specs.Generates.{Builds}
use Rattle.message.specs.Message.{Msg, Reads, wire}
use Rattle.model.specs.Sheet.{Sheet}
use Rattle.medium.specs.Spreading.{Knows}

-- The messages that two rows know.
abbrev pub Held : Sheet → (bytes marks other other_marks : List ℕ) → Msg → Type 0
Held sheet bytes marks other other_marks m = Knows sheet bytes marks other other_marks (wire m)

-- Whether the message that the bytes are is built from those.
abbrev pub Makes : Sheet → (bytes marks other other_marks wanted : List ℕ) → Bool → Type 0
Makes sheet bytes marks other other_marks wanted answer = (m : Msg) → Reads wanted m → Decides answer (Builds (Held sheet bytes marks other other_marks) m)
