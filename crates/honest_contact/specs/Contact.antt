-- An honest contact of the example sheet: what is called, what is sent, and how it ends.
use Rattle.std.specs.Prelude.{◌≡◌, ℕ, ◌≤◌, List, [], ◌∷◌, length, sum_by, Some}
use Rattle.std.specs.Borrow.{Bor}
use Rattle.medium.specs.Media.{Meaning}
use Rattle.medium.specs.Store.{cost}
use Rattle.message.specs.Message.{Msg, agent, nonce, pair, seal, shared, text, wire}
use Rattle.model.specs.Sheet.{Claim}
use Rattle.ranks.specs.Ranks.{ListsEvent}
use Rattle.tables.specs.Entries.{entries, table_of}
use Rattle.board.specs.declared.acts.Act.{Act}
use Rattle.board.specs.declared.acts.Act.TheVariants as act
use Rattle.board.specs.declared.board.Board.{Board}
use Rattle.board.specs.declared.records.Event.{Event}
use Rattle.board.specs.Records.{event_of}
use Rattle.board.specs.Rehearsing.{IsNew, Plays}
use Rattle.worked.specs.Silence.{silence}

-- What B sends, which asks with its nonce, and what G answers to it with the text that it chose.
abbrev pub asking : Msg
asking = pair (agent 1) (nonce 0)

abbrev pub answer : Msg
answer = seal (shared 0 1) (pair (agent 0) (pair (nonce 0) (text 0)))

abbrev pub exchanged : List Msg
exchanged = asking ∷ answer ∷ []

-- The bytes that an area needs for both: 22.
abbrev pub bytes_for_both : ℕ
bytes_for_both = sum_by cost exchanged

-- Five numbers 0, which choose the named nonce for B and the named text for G.
abbrev pub zeros : List ℕ
zeros = 0 ∷ 0 ∷ 0 ∷ 0 ∷ 0 ∷ []

-- B starts to play the bus and G the ground, and each does what its script says, where the ground receives the first bytes and the bus the others.
abbrev pub honest_acts : Bor (List ℕ) → Bor (List ℕ) → List Act
honest_acts asked answered =
    act.Start 0 1 zeros
    ∷ act.Start 1 0 zeros
    ∷ act.Send 0
    ∷ act.Deliver 1 asked
    ∷ act.Signal 1
    ∷ act.Send 1
    ∷ act.Deliver 0 answered
    ∷ act.Signal 0
    ∷ []

module _ {X : Type 0} (meaning : X → Meaning) (takes : X → Msg → X → Type 0) where
  -- The calls of an honest contact are made, and each message is delivered in the bytes that it was sent in.
  pub record Contacts (b : Board) (x : X) (c : Board) (y : X) (declined : ℕ) : Type 0 where
    pub asked : Bor (List ℕ)
    pub answered : Bor (List ℕ)
    pub is-asked : asked.now ≡ wire asking
    pub is-answered : answered.now ≡ wire answer
    pub plays : Plays meaning takes b x (honest_acts asked answered) c y declined

  -- The medium carries the messages: it has space for each in turn, and offers each once it has taken it.
  unfoldable pub Carries : X → List Msg → Type 0
  Carries x [] = Unit {0}
  Carries x (m ∷ ms) = (meaning x).space m × ((y : X) → takes x m y → (meaning y).offered m × Carries y ms)

-- The log has the claim's needed event and then its completion, and nothing else.
pub record Completed (claim : Claim) (log : List Event) : Type 0 where
  pub needed : Event
  pub completion : Event
  pub whole : log ≡ needed ∷ completion ∷ []
  pub lists-needed : ListsEvent claim.needed (event_of needed)
  pub lists-completion : ListsEvent claim.completion (event_of completion)

-- A new board on the example sheet, with room for two sessions and two events.
pub record Prepared (b : Board) : Type 0 where
  pub on : b.sheet.now ≡ Some silence
  pub new : IsNew b
  pub two-sessions : 2 ≤ length (table_of b.sessions)
  pub two-events : 2 ≤ length (table_of b.log)

-- No call is declined, and the log is completed.
abbrev pub Succeeds : ℕ → Board → Type 0
Succeeds declined b = (declined ≡ 0) × Completed silence.claim (entries b.log)
