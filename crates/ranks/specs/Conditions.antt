-- The four conditions under which a sheet's ranks prove its claim.
use Rattle.std.specs.Prelude.{◌≡◌, ℕ, ◌<◌, ◌≤◌, true, ◌↔◌, List, Some, Option}
use Rattle.std.specs.List.{slice_get}
use Rattle.message.specs.declared.Atom.{Atom}
use Rattle.message.specs.Message.{Key, Msg, key, seal}
use Rattle.model.specs.Sheet.{Ranked, Role, Sheet}
use Rattle.model.specs.Trees.{Term}
use Rattle.instances.specs.Actions.{Action, Event, does, receives, sends, signals}
use Rattle.instances.specs.Instances.{Instance, played}
use Rattle.instances.specs.Start.{Start}
use Rattle.instances.specs.Substitution.{message}
use Rattle.scale.specs.Scales.{Scale}
use Rattle.ranks.specs.Ranks.{EachOf, Gives, ListsEvent, Positive, PositiveEvent, free_values}

-- 1. Every message that the enemy knows at the start is positive.
abbrev pub KnowledgePositive : Scale → Sheet → Type 0
KnowledgePositive scale sheet = (m : Msg) → Start sheet m → Positive scale sheet m

-- No `seal` line before that of number i gives the message.
abbrev pub NoneEarlier : Sheet → ℕ → Msg → Type 0
NoneEarlier sheet i m = (j : ℕ) (l : Ranked Term) → j < i → slice_get sheet.seals j ≡ Some l → Gives sheet.free l.what m → ⊥

-- 2. Where values turn a `seal` line into a seal that no earlier line gives, and its key is positive, the line's rank is positive exactly when
-- the content is.
abbrev pub SealsAgree : Scale → Sheet → Type 0
SealsAgree scale sheet =
    (i : ℕ) (l : Ranked Term) → slice_get sheet.seals i ≡ Some l
    → (vars : List (Option Atom)) → EachOf sheet.free vars
    → (k : Key) (m : Msg) → message (free_values vars) l.what ≡ Some (seal k m)
    → NoneEarlier sheet i (seal k m)
    → Positive scale sheet (key k)
    → (scale.above l.rank ≡ true) ↔ Positive scale sheet m

-- 3. The completion is not positive.
abbrev pub CompletionNot : Scale → Sheet → Type 0
CompletionNot scale sheet = (e : Event) → ListsEvent sheet.claim.completion e → PositiveEvent scale sheet e → ⊥

-- What is sent or signalled is positive.
abbrev pub Maintains : Scale → Sheet → Action → Type 0
Maintains scale sheet (sends m) = Positive scale sheet m
Maintains scale sheet (receives m) = Unit {0}
Maintains scale sheet (signals e) = PositiveEvent scale sheet e

-- 4. For every role, instance and step: if no signal up to and including it is the needed event, and all messages received before it are
-- positive, then what it sends or signals is positive.
abbrev pub RolesMaintain : Scale → Sheet → Type 0
RolesMaintain scale sheet =
    (r : ℕ) (role : Role) → slice_get sheet.roles r ≡ Some role
    → (a : ℕ) (vars : List (Option Atom)) → Instance sheet r role a vars
    → (k : ℕ) (d : Action) → does role (played a vars) k ≡ Some d
    → ((j : ℕ) (e : Event) → j ≤ k → does role (played a vars) j ≡ Some (signals e) → ListsEvent sheet.claim.needed e → ⊥)
    → ((j : ℕ) (m : Msg) → j < k → does role (played a vars) j ≡ Some (receives m) → Positive scale sheet m)
    → Maintains scale sheet d

pub record Conditions (scale : Scale) (sheet : Sheet) : Type 0 where
  pub first : KnowledgePositive scale sheet
  pub second : SealsAgree scale sheet
  pub third : CompletionNot scale sheet
  pub fourth : RolesMaintain scale sheet
