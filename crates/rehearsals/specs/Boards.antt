-- The board: sessions, the log, and what each call does.
use Rattle.std.specs.Prelude.{◌≡◌, ℕ, ◌+◌, Bool, true, false, cond, ◌&&◌, ◌⊎◌, List, [], ◌∷◌, ◌++◌, Some, None, Option, slice_index_or, slice_set}
use Rattle.std.specs.List.{slice_get}
use Rattle.message.specs.declared.Atom.{Atom}
use Rattle.message.specs.declared.Kind.{Kind}
use Rattle.message.specs.Message.{Msg}
use Rattle.model.specs.declared.node.Sort.{Sort}
use Rattle.model.specs.declared.node.Sort.TheVariants.{Fresh, Plain}
use Rattle.model.specs.Sheet.{Role, Sheet, Variable, receive}
use Rattle.model.specs.Trees.{Term}
use Rattle.model.specs.Variables.{received, stands_in}
use Rattle.instances.specs.Actions.{Action, Event, does, receives, sends, signals}
use Rattle.instances.specs.Instances.{Instance, Of, played}
use Rattle.medium.specs.Media.{Meaning, Takes}

-- An agent that plays a role: the step that it does next, and what each variable stands for, if for anything yet.
pub record Session : Type 0 where
  pub role : ℕ
  pub agent : ℕ
  pub next : ℕ
  pub variables : List (Option Atom)

-- The sessions, numbered from 0 in the order in which they started, and the events that they signalled, in order.
pub record Board : Type 0 where
  pub sessions : List Session
  pub log : List Event

abbrev pub board_of : List Session → List Event → Board
board_of sessions log = record { sessions = sessions; log = log }

-- One step further, with these values.
abbrev pub moved : Session → List (Option Atom) → Session
moved s variables = record { role = s.role; agent = s.agent; next = s.next + 1; variables = variables }

-- ---- what a session does

-- A fresh variable is the session's own.
abbrev pub is_plain : Sort → Bool
is_plain Fresh = false
is_plain (Plain k) = true

abbrev pub is_plain_variable : Option Variable → Bool
is_plain_variable None = false
is_plain_variable (Some v) = is_plain v.sort

-- The variable of this number gets its value from a message: it is not fresh, and the first step in which it stands receives.
abbrev pub awaited : Role → ℕ → Bool
awaited role i = is_plain_variable (slice_get role.variables i) && received i role.steps

-- A session as it starts: at the first step, with an instance's values for the fresh and the chosen variables, and none for those that
-- it is to receive.
pub record New (sheet : Sheet) (s : Session) : Type 0 where
  pub role : Role
  pub is-role : slice_get sheet.roles s.role ≡ Some role
  pub whole : List (Option Atom)
  pub is-instance : Instance sheet s.role role s.agent whole
  pub values : (i : ℕ) → slice_index_or s.variables i None ≡ cond (awaited role i) None (slice_index_or whole i None)
  pub at-first : s.next ≡ 0

-- Session i of the board is s, and with these values its next step does d.
pub record Ready (sheet : Sheet) (b : Board) (i : ℕ) (s : Session) (variables : List (Option Atom)) (d : Action) : Type 0 where
  pub is-session : slice_get b.sessions i ≡ Some s
  pub role : Role
  pub is-role : slice_get sheet.roles s.role ≡ Some role
  pub does-it : does role (played s.agent variables) s.next ≡ Some d

-- Variable i is not fresh and stands in the term that step k receives, and x is an atom of its kind.
pub record Bound (role : Role) (k i : ℕ) (x : Atom) : Type 0 where
  pub term : Term
  pub is-received : slice_get role.steps k ≡ Some (receive term)
  pub stands : stands_in i term ≡ true
  pub variable : Variable
  pub is-variable : slice_get role.variables i ≡ Some variable
  pub kind : Kind
  pub not-fresh : variable.sort ≡ Plain kind
  pub of-kind : Of kind x

-- From before to after every value is kept, and what else has one is bound by step k.
pub record Binds (role : Role) (k : ℕ) (before after : List (Option Atom)) : Type 0 where
  pub kept : (i : ℕ) (x : Atom) → slice_index_or before i None ≡ Some x → slice_index_or after i None ≡ Some x
  pub bound : (i : ℕ) (x : Atom) → slice_index_or after i None ≡ Some x → (slice_index_or before i None ≡ Some x) ⊎ Bound role k i x

-- ---- calls

-- One call, of a board over a medium whose states have these meanings: a session starts, sends what the medium takes, receives what it
-- offers, or signals an event, which is logged; or the call is declined. What a medium takes, forgets and offers is its own.
pub data Call (sheet : Sheet) {X : Type 0} (meaning : X → Meaning) : Board → X → Board → X → Type 0 where
  started : {b : Board} {x : X} (s : Session) → New sheet s
      → Call sheet meaning b x (board_of (b.sessions ++ (s ∷ [])) b.log) x
  sent : {b : Board} {x y : X} (i : ℕ) (s : Session) (m : Msg) → Ready sheet b i s s.variables (sends m) → Takes (meaning x) (meaning y) m
      → Call sheet meaning b x (board_of (slice_set b.sessions i (moved s s.variables)) b.log) y
  delivered : {b : Board} {x : X} (i : ℕ) (s : Session) (m : Msg) (variables : List (Option Atom)) (r : Ready sheet b i s variables (receives m))
      → Binds r.role s.next s.variables variables → (meaning x).offered m
      → Call sheet meaning b x (board_of (slice_set b.sessions i (moved s variables)) b.log) x
  signalled : {b : Board} {x : X} (i : ℕ) (s : Session) (e : Event) → Ready sheet b i s s.variables (signals e)
      → Call sheet meaning b x (board_of (slice_set b.sessions i (moved s s.variables)) (b.log ++ (e ∷ []))) x
  declined : {b : Board} {x : X} → Call sheet meaning b x b x
