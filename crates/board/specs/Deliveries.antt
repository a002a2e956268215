-- What `deliver` answers and leaves.
use Rattle.std.specs.Prelude.{◌≡◌, ℕ, ◌⊎◌, List, length, Some, None, Option, Result, Ok, Err}
use Rattle.std.specs.List.{slice_get}
use Rattle.instances.specs.Actions.{does, receives}
use Rattle.instances.specs.Instances.{played}
use Rattle.medium.specs.Media.{Meaning, Offers}
use Rattle.message.specs.declared.Atom.{Atom}
use Rattle.message.specs.Message.{IsMessage, Msg, Reads, wire}
use Rattle.model.specs.Sheet.{Role, Sheet, Step, receive, send, signal}
use Rattle.rehearsals.specs.Boards.{Binds}
use Rattle.sheet.specs.Sheets.{reading}
use Rattle.tables.specs.Entries.{entries}
use Rattle.board.specs.declared.board.Board.{Board}
use Rattle.board.specs.declared.records.Session.{Session}
use Rattle.board.specs.declared.refusal.Move.TheVariants as move
use Rattle.board.specs.declared.refusal.Refusal.{Refusal}
use Rattle.board.specs.declared.refusal.Refusal.TheVariants.{NoSession, OtherStep, NotMessage, NotOffered, NoMatch}
use Rattle.board.specs.Boards.{Moves}
use Rattle.board.specs.Steps.{moved, next_step, role_at}

-- With these values the session's next step receives the message. They are those that it has, and a value of its kind for each variable that has
-- none yet and stands in what is received.
pub record Turns (sheet : Option Sheet) (s : Session) (values : List (Option Atom)) (m : Msg) : Type 0 where
  pub role : Role
  pub is-role : role_at sheet s.role ≡ Some role
  pub slots : length values ≡ length s.values
  pub binds : Binds role s.next s.values values
  pub does-it : does role (played s.agent values) s.next ≡ Some (receives m)

-- Values that do so are the only ones.
abbrev pub TurnsOnce : Type 0
TurnsOnce = (text : List ℕ) (sheet : Sheet) → reading text ≡ Ok sheet
    → (s : Session) (m : Msg) → Reads (wire m) m → (values others : List (Option Atom)) → Turns (Some sheet) s values m → Turns (Some sheet) s others m → values ≡ others

abbrev pub receiving : Session → Option Step → Result Session Refusal
receiving s None = Err (OtherStep move.Deliver)
receiving s (Some (send t)) = Err (OtherStep move.Deliver)
receiving s (Some (receive t)) = Ok s
receiving s (Some (signal e)) = Err (OtherStep move.Deliver)

-- Why nothing is received, or who receives.
abbrev pub to_deliver : Option Sheet → Option Session → Result Session Refusal
to_deliver sheet None = Err (NoSession move.Deliver)
to_deliver sheet (Some s) = receiving s (next_step sheet s)

abbrev pub deliver_of : Board → ℕ → Result Session Refusal
deliver_of b i = to_deliver b.sheet.now (slice_get (entries b.sessions) i)

-- Nobody receives; or the bytes are no message, or not offered, or no values turn what is received into that message.
abbrev pub Undelivered : Result Session Refusal → Option Sheet → Meaning → List ℕ → Refusal → Type 0
Undelivered (Err e) sheet medium bytes refusal = refusal ≡ e
Undelivered (Ok s) sheet medium bytes refusal =
    ((refusal ≡ NotMessage) × (IsMessage bytes → ⊥))
    ⊎ (((refusal ≡ NotOffered) × (IsMessage bytes × (Offers medium bytes → ⊥)))
    ⊎ ((refusal ≡ NoMatch) × (Offers medium bytes × ((m : Msg) (values : List (Option Atom)) → Reads bytes m → Turns sheet s values m → ⊥))))

-- The session receives the message, with the values that turn its step into it, and moves on; or the call is declined and nothing changes.
abbrev pub Delivers : ℕ → Meaning → List ℕ → Board → Board → Result (Unit {0}) Refusal → Type 0
Delivers i medium bytes b c (Ok done) =
    (s : Session) × (deliver_of b i ≡ Ok s)
    × ((m : Msg) × Reads bytes m × medium.offered m × ((values : List (Option Atom)) × Turns b.sheet.now s values m × Moves i (moved s values) b c))
Delivers i medium bytes b c (Err e) = Undelivered (deliver_of b i) b.sheet.now medium bytes e × (c ≡ b)
