-- What is told of a contact that was held on a board of its own.
use Rattle.std.specs.Prelude.{◌≡◌, ℕ, ◌≤◌, List, length, Some, Option}
use Rattle.std.specs.Borrow.{MutBor}
use Rattle.std.specs.List.{slice_get}
use Rattle.medium.specs.declared.enemy.Enemy.{Enemy}
use Rattle.medium.specs.declared.relay.Relay.{Relay}
use Rattle.medium.specs.Enemies as enemies
use Rattle.medium.specs.Media.{Meaning}
use Rattle.medium.specs.Relays as relays
use Rattle.message.specs.Message.{Msg}
use Rattle.model.specs.Sheet.{Claim, Sheet}
use Rattle.ranks.specs.Ranks.{ListsEvent}
use Rattle.tables.specs.Entries.{entries, table_of}
use Rattle.board.specs.declared.board.Board.{Board}
use Rattle.board.specs.declared.records.Event.{Event}
use Rattle.board.specs.declared.records.Session.{Session}
use Rattle.board.specs.Records.{event_of}
use Rattle.board.specs.Rehearsing.{IsNew}
use Rattle.worked.specs.Silence.{silence}
use Rattle.honest_contact.specs.declared.ending.Ending.{Ending}
use Rattle.honest_contact.specs.Contact.{Contacts}

-- What is told of a contact that left this board and in which so many calls were declined.
pub record Tells (b : Board) (declined : ℕ) (e : Ending) : Type 0 where
  pub declined-is : e.declined ≡ declined
  pub logged-is : e.logged ≡ length (entries b.log)
  pub first-is : e.first ≡ slice_get (entries b.log) 0
  pub second-is : e.second ≡ slice_get (entries b.log) 1

-- A contact was held on a new board with these tables, over a medium that was x and is y, and this is told of it.
pub record Held {X : Type 0} (meaning : X → Meaning) (takes : X → Msg → X → Type 0) (sheet : Option Sheet) (sessions : List Session) (log : List Event) (x y : X) (e : Ending) : Type 0 where
  pub before : Board
  pub on : before.sheet.now ≡ sheet
  pub new : IsNew before
  pub sessions-table : table_of before.sessions ≡ sessions
  pub log-table : table_of before.log ≡ log
  pub after : Board
  pub declined : ℕ
  pub contacts : Contacts meaning takes before x after y declined
  pub tells : Tells after declined e

-- The medium was a new relay over this area.
pub record OverRelay (sheet : Option Sheet) (sessions : List Session) (log : List Event) (area : List ℕ) (e : Ending) : Type 0 where
  pub contents : Sheet
  pub is-read : sheet ≡ Some contents
  pub lent : MutBor (List ℕ)
  pub lent-is : lent.now ≡ area
  pub before : Relay
  pub new : relays.New contents lent before
  pub after : Relay
  pub held : Held relays.relayed relays.Takes sheet sessions log before after e

-- The medium was a new enemy over these areas.
pub record OverEnemy (sheet : Option Sheet) (sessions : List Session) (log : List Event) (area marks : List ℕ) (e : Ending) : Type 0 where
  pub contents : Sheet
  pub is-read : sheet ≡ Some contents
  pub lent : MutBor (List ℕ)
  pub lent-is : lent.now ≡ area
  pub lent-marks : MutBor (List ℕ)
  pub marks-are : lent-marks.now ≡ marks
  pub before : Enemy
  pub new : enemies.New contents lent lent-marks before
  pub after : Enemy
  pub held : Held enemies.analysing enemies.Takes sheet sessions log before after e

-- The sheet is the example, and each table has two places.
pub record Enough (sheet : Option Sheet) (sessions : List Session) (log : List Event) : Type 0 where
  pub on : sheet ≡ Some silence
  pub two-sessions : 2 ≤ length sessions
  pub two-events : 2 ≤ length log

-- No call was declined, and two events were logged: the claim's needed event and then its completion.
pub record Reached (claim : Claim) (e : Ending) : Type 0 where
  pub none-declined : e.declined ≡ 0
  pub two-logged : e.logged ≡ 2
  pub needed : Event
  pub is-first : e.first ≡ Some needed
  pub lists-needed : ListsEvent claim.needed (event_of needed)
  pub completion : Event
  pub is-second : e.second ≡ Some completion
  pub lists-completion : ListsEvent claim.completion (event_of completion)
