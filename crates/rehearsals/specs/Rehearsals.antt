-- Rehearsals, and what holds of the log of each.
use Rattle.std.specs.Prelude.{◌≡◌, ℕ, ◌<◌, List, [], Some}
use Rattle.std.specs.List.{slice_get}
use Rattle.model.specs.Sheet.{Claim, Sheet, Signal}
use Rattle.instances.specs.Actions.{Event}
use Rattle.medium.specs.Media.{Meaning}
use Rattle.ranks.specs.Conditions.{Conditions}
use Rattle.ranks.specs.Ranks.{ListsEvent, Valued}
use Rattle.scale.specs.Scales.{Scale}
use Rattle.rehearsals.specs.Boards.{Board, Call, board_of}

-- Any calls one after another, from the empty board and a medium on its sheet that has heard nothing, to this board and this medium.
pub data Rehearsal (sheet : Sheet) {X : Type 0} (meaning : X → Meaning) : Board → X → Type 0 where
  opening : {x : X} → (meaning x).sheet ≡ sheet → (meaning x).heard ≡ [] → Rehearsal sheet meaning (board_of [] []) x
  further : {b c : Board} {x y : X} → Rehearsal sheet meaning b x → Call sheet meaning b x c y → Rehearsal sheet meaning c y

-- The event that the signal lists stands in the log before entry i.
pub record StandsBefore (s : Signal) (log : List Event) (i : ℕ) : Type 0 where
  pub at : ℕ
  pub before : at < i
  pub event : Event
  pub is-entry : slice_get log at ≡ Some event
  pub listed : ListsEvent s event

-- Wherever the second event stands in the log, the first stands before it.
abbrev pub Precedes : Signal → Signal → List Event → Type 0
Precedes first second log = (i : ℕ) (e : Event) → slice_get log i ≡ Some e → ListsEvent second e → StandsBefore first log i

-- The completion and the needed event are not the same.
abbrev pub EventsApart : Claim → Type 0
EventsApart claim = (e : Event) → ListsEvent claim.completion e → ListsEvent claim.needed e → ⊥

-- On a sheet whose lines give values of the scale, that meets the four conditions, and whose claim has two different events, the needed
-- event precedes the completion in the log of every rehearsal.
abbrev pub Guarded : Scale → {X : Type 0} → (X → Meaning) → Type 0
Guarded scale {X} meaning =
    (sheet : Sheet) → Valued scale sheet → Conditions scale sheet → EventsApart sheet.claim
    → (b : Board) (x : X) → Rehearsal sheet meaning b x → Precedes sheet.claim.needed sheet.claim.completion b.log
