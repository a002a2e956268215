-- What `send` answers and leaves.
use Rattle.std.specs.Prelude.{◌≡◌, ℕ, List, Some, None, Option, Result, Ok, Err}
use Rattle.std.specs.List.{slice_get}
use Rattle.medium.specs.Media.{Meaning}
use Rattle.message.specs.Message.{Msg, Reads}
use Rattle.model.specs.Sheet.{Sheet}
use Rattle.tables.specs.Entries.{entries}
use Rattle.board.specs.declared.board.Board.{Board}
use Rattle.board.specs.declared.records.Session.{Session}
use Rattle.board.specs.declared.refusal.Move.TheVariants as move
use Rattle.board.specs.declared.refusal.Refusal.{Refusal}
use Rattle.board.specs.declared.refusal.Refusal.TheVariants.{NoSession, OtherStep, NoSpace}
use Rattle.board.specs.Boards.{Moves}
use Rattle.board.specs.Steps.{moved, next_action, sent}

-- A session, and the message that it is to send.
pub record Sending : Type 0 where
  pub session : Session
  pub message : Msg

abbrev pub sending : Session → Option Msg → Result Sending Refusal
sending s None = Err (OtherStep move.Send)
sending s (Some m) = Ok (record { session = s; message = m })

-- Why there is nothing to send, or what is.
abbrev pub to_send : Option Sheet → Option Session → Result Sending Refusal
to_send sheet None = Err (NoSession move.Send)
to_send sheet (Some s) = sending s (sent (next_action sheet s))

abbrev pub send_of : Board → ℕ → Result Sending Refusal
send_of b i = to_send b.sheet.now (slice_get (entries b.sessions) i)

-- There is nothing to send, or no space for it.
abbrev pub Unsent : Result Sending Refusal → Meaning → Refusal → Type 0
Unsent (Err e) medium refusal = refusal ≡ e
Unsent (Ok x) medium refusal = (refusal ≡ NoSpace) × (medium.space x.message → ⊥)

-- The medium takes the message, which is answered, and the session moves on; or the call is declined and nothing changes.
abbrev pub Sends : {X : Type 0} → (X → Meaning) → (X → Msg → X → Type 0) → ℕ → Board → X → Board → X → Result (List ℕ) Refusal → Type 0
Sends meaning takes i b x c y (Ok bytes) = (s : Sending) × (send_of b i ≡ Ok s) × Reads bytes s.message × takes x s.message y × Moves i (moved s.session s.session.values) b c
Sends meaning takes i b x c y (Err e) = Unsent (send_of b i) (meaning x) e × (c ≡ b) × (y ≡ x)
