-- What is seen when a condition is tried for some values.
use Rattle.std.specs.Prelude.{◌≡◌, ℕ, ◌<◌, ◌+◌, ◌⊎◌, Bool, true, false, ◌↔◌, IsTrue, List, Some, None, Option, MatchOption}
use Rattle.std.specs.List.{slice_get}
use Rattle.message.specs.declared.Atom.{Atom}
use Rattle.message.specs.Message.{Key, Msg, key, seal}
use Rattle.model.specs.Sheet.{Ranked, Sheet, Step}
use Rattle.model.specs.Trees.{Term}
use Rattle.instances.specs.Actions.{Action, Event, done_at, receives, signals}
use Rattle.instances.specs.Substitution.{Values, message}
use Rattle.scale.specs.Scales.{Scale}
use Rattle.ranks.specs.Conditions.{Maintains, NoneEarlier}
use Rattle.ranks.specs.Ranks.{ListsEvent, Positive, free_values}
use Rattle.checker.specs.declared.steps.Found.{Found}
use Rattle.checker.specs.declared.steps.Found.TheVariants as found
use Rattle.checker.specs.Verdicts.{FirstOf}

-- Whether P holds of what is there; none where nothing is.
abbrev pub Tells : {X : Type 0} → (X → Type 0) → Option X → Option Bool → Type 0
Tells P o None = o ≡ None
Tells {X} P o (Some b) = (x : X) × (o ≡ Some x) × (IsTrue b ↔ P x)

-- These values turn the `seal` line of number i into a seal that no earlier line gives and whose key is positive, and line and content are
-- not alike positive.
pub record Unlike (scale : Scale) (sheet : Sheet) (i : ℕ) (line : Ranked Term) (values : List (Option Atom)) : Type 0 where
  pub under : Key
  pub content : Msg
  pub is-seal : message (free_values values) line.what ≡ Some (seal under content)
  pub first : NoneEarlier sheet i (seal under content)
  pub key-positive : Positive scale sheet (key under)
  pub unlike : (scale.above line.rank ≡ true) ↔ Positive scale sheet content → ⊥

-- ---- steps

-- what some steps do under values
abbrev pub done : Values → List Step → ℕ → Option Action
done v steps k = done_at v (slice_get steps k)

-- The needed event is signalled.
abbrev pub Needed : Sheet → Action → Type 0
Needed sheet d = (e : Event) × (d ≡ signals e) × ListsEvent sheet.claim.needed e

-- A message is received that is not positive.
abbrev pub Refused : Scale → Sheet → Action → Type 0
Refused scale sheet d = (m : Msg) × (d ≡ receives m) × (Positive scale sheet m → ⊥)

-- Of these steps that of number k breaks the fourth condition.
pub record Breaks (scale : Scale) (sheet : Sheet) (at : ℕ → Option Action) (k : ℕ) : Type 0 where
  pub action : Action
  pub is-action : at k ≡ Some action
  pub not-needed : (j : ℕ) (d : Action) → j < k + 1 → at j ≡ Some d → Needed sheet d → ⊥
  pub all-received : (j : ℕ) (d : Action) → j < k → at j ≡ Some d → Refused scale sheet d → ⊥
  pub fails : Maintains scale sheet action → ⊥

-- What a step shows: it keeps to the condition, breaks it, or ends the trial.
abbrev pub Shows : Scale → Sheet → Option Action → Found → Type 0
Shows scale sheet o found.Kept = (d : Action) → o ≡ Some d → Maintains scale sheet d × (Needed sheet d → ⊥) × (Refused scale sheet d → ⊥)
Shows scale sheet o found.Broken = (d : Action) × (o ≡ Some d) × (Needed sheet d → ⊥) × (Maintains scale sheet d → ⊥)
Shows scale sheet o found.Excused = (d : Action) × (o ≡ Some d) × (Needed sheet d ⊎ Refused scale sheet d)

-- what is shown by something that has to be positive
abbrev pub sent : Option Bool → Found
sent None = found.Kept
sent (Some true) = found.Kept
sent (Some false) = found.Broken

-- what is shown by a message that is received
abbrev pub received : Option Bool → Found
received None = found.Kept
received (Some true) = found.Kept
received (Some false) = found.Excused

-- The first that breaks it, if one does.
abbrev pub FirstBreak : Scale → Sheet → (ℕ → Option Action) → Option ℕ → Type 0
FirstBreak scale sheet at first = MatchOption first ((k : ℕ) → Breaks scale sheet at k → ⊥) (FirstOf (Breaks scale sheet at))
