-- What a session does next, and how it moves on.
use Rattle.std.specs.Prelude.{◌≡◌, ℕ, ◌+◌, List, Some, None, Ok, Option}
use Rattle.std.specs.List.{slice_get}
use Rattle.instances.specs.Actions.{Action, done_at, receives, sends, signals}
use Rattle.instances.specs.Actions as actions
use Rattle.instances.specs.Instances.{played}
use Rattle.message.specs.declared.Atom.{Atom}
use Rattle.message.specs.Message.{Msg, Reads}
use Rattle.model.specs.Sheet.{Role, Sheet, Step}
use Rattle.sheet.specs.Sheets.{reading}
use Rattle.board.specs.declared.records.Event.{Event}
use Rattle.board.specs.declared.records.Session.{Session}
use Rattle.board.specs.Records.{event_of, kept_event}

-- A sheet that was not read has no roles.
abbrev pub role_at : Option Sheet → ℕ → Option Role
role_at None r = None
role_at (Some m) r = slice_get m.roles r

abbrev pub step_in : Option Role → ℕ → Option Step
step_in None k = None
step_in (Some role) k = slice_get role.steps k

-- The sheet was read from a text.
abbrev pub WasRead : Option Sheet → Type 0
WasRead None = ⊥
WasRead (Some m) = (text : List ℕ) × (reading text ≡ Ok m)

-- What a sheet holds was read.
abbrev pub Read : Option Sheet → Type 0
Read None = Unit {0}
Read (Some m) = WasRead (Some m)

-- The step that is the session's next one; none after its last.
abbrev pub next_step : Option Sheet → Session → Option Step
next_step sheet s = step_in (role_at sheet s.role) s.next

-- What the session does there with the values that it has; nothing where these leave something open.
abbrev pub next_action : Option Sheet → Session → Option Action
next_action sheet s = done_at (played s.agent s.values) (next_step sheet s)

-- the event, if one is signalled; the message, if one is sent
abbrev pub signalled : Option Action → Option actions.Event
signalled None = None
signalled (Some (sends m)) = None
signalled (Some (receives m)) = None
signalled (Some (signals e)) = Some e

abbrev pub sent : Option Action → Option Msg
sent None = None
sent (Some (sends m)) = Some m
sent (Some (receives m)) = None
sent (Some (signals e)) = None

-- One step further, with these values.
abbrev pub moved : Session → List (Option Atom) → Session
moved s values = record { role = s.role; agent = s.agent; next = s.next + 1; values = values }

-- The event is answered as the log keeps it.
abbrev pub Keeps : Option actions.Event → Option Event → Type 0
Keeps wanted None = wanted ≡ None
Keeps wanted (Some e) = (wanted ≡ Some (event_of e)) × (e ≡ kept_event (event_of e))

-- The message is answered as bytes.
abbrev pub Spells : Option Msg → Option (List ℕ) → Type 0
Spells wanted None = wanted ≡ None
Spells wanted (Some bytes) = (m : Msg) × (wanted ≡ Some m) × Reads bytes m
