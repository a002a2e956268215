-- In every rehearsal a session does the steps of its role once and in order.
use Rattle.std.specs.Prelude.{◌≡◌, ℕ, ◌≤◌, Contains, List, [], map, length, Some, None}
use Rattle.std.specs.List.{range_with_len, slice_get}
use Rattle.model.specs.Sheet.{Role, Sheet}
use Rattle.instances.specs.Actions.{does}
use Rattle.instances.specs.Instances.{played}
use Rattle.medium.specs.Media.{Meaning}
use Rattle.rehearsals.specs.Boards.{Board, Session}
use Rattle.rehearsals.specs.Rehearsals.{Rehearsal}
use Rattle.rehearsal_laws.specs.Deeds.{Deed, deeds, deeds_of}

-- What the session did is the first n steps of the role, 0, 1, .., n - 1, each once and in order; and at each it did what the role does
-- there for its agent and the values that it now has.
pub record DidFirst (role : Role) (s : Session) (n : ℕ) (did : List Deed) : Type 0 where
  pub steps : map (λ (d : Deed). d.step) did ≡ range_with_len 0 n
  pub actions : (d : Deed) → Contains did d → does role (played s.agent s.variables) d.step ≡ Some d.action

-- The session has a role on the sheet, and has done the steps that lie before its next one.
pub record InOrder (sheet : Sheet) (s : Session) (did : List Deed) : Type 0 where
  pub role : Role
  pub is-role : slice_get sheet.roles s.role ≡ Some role
  pub within : s.next ≤ length role.steps
  pub first : DidFirst role s s.next did

-- In every rehearsal each session has done its steps in order.
abbrev pub StepsInOrder : {X : Type 0} → (X → Meaning) → Type 0
StepsInOrder {X} meaning =
    (sheet : Sheet) (b : Board) (x : X) (r : Rehearsal sheet meaning b x) (i : ℕ) (s : Session) → slice_get b.sessions i ≡ Some s
    → InOrder sheet s (deeds_of i (deeds r))

-- Session i of the board is s, plays this role, and is at its end: no step is left.
pub record AtEnd (sheet : Sheet) (b : Board) (i : ℕ) (s : Session) (role : Role) : Type 0 where
  pub is-session : slice_get b.sessions i ≡ Some s
  pub is-role : slice_get sheet.roles s.role ≡ Some role
  pub no-more : s.next ≡ length role.steps

-- In every rehearsal a session that is at its end has done each step of its role once, in order.
abbrev pub EachStepOnce : {X : Type 0} → (X → Meaning) → Type 0
EachStepOnce {X} meaning =
    (sheet : Sheet) (b : Board) (x : X) (r : Rehearsal sheet meaning b x) (i : ℕ) (s : Session) (role : Role) → AtEnd sheet b i s role
    → DidFirst role s (length role.steps) (deeds_of i (deeds r))

-- In every rehearsal a session that has not started, of a number past those of the board, has done nothing.
abbrev pub NoneActsUnstarted : {X : Type 0} → (X → Meaning) → Type 0
NoneActsUnstarted {X} meaning =
    (sheet : Sheet) (b : Board) (x : X) (r : Rehearsal sheet meaning b x) (i : ℕ) → slice_get b.sessions i ≡ None → deeds_of i (deeds r) ≡ []
