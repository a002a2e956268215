-- What the check answers of a sheet on a scale, and when each answer is right.
use Rattle.std.specs.Prelude.{◌≡◌, ℕ, ◌<◌, ◌↔◌, ◌+◌, true, List, [], ◌∷◌, length, MatchBool, Some, None, Option}
use Rattle.std.specs.List.{slice_get}
use Rattle.message.specs.declared.Atom.{Atom}
use Rattle.message.specs.declared.Atom.TheVariants.{Agent, Nonce, Text}
use Rattle.message.specs.Message.{Key, Msg, key, seal}
use Rattle.model.specs.Sheet.{Ranked, Role, Sheet, Variable}
use Rattle.model.specs.Trees.{Term}
use Rattle.model.specs.Variables.{stands_in}
use Rattle.instances.specs.Actions.{Action, Event, does, receives, signals}
use Rattle.instances.specs.Instances.{Instance, Of, played}
use Rattle.instances.specs.Start.{Own}
use Rattle.instances.specs.Substitution.{message, names_alone}
use Rattle.scale.specs.Scales.{Scale}
use Rattle.search.specs.Rows.{Less}
use Rattle.ranks.specs.Conditions.{CompletionNot, Conditions, KnowledgePositive, Maintains, NoneEarlier, SealsAgree}
use Rattle.ranks.specs.Ranks.{ListsEvent, ListsMessage, Positive, free_values, kind_of}

-- The sheet is accepted; or the first condition that fails, where, and for which values. Lines are counted from 0 among their like, and roles
-- and a role's steps from 0 too.
pub data Verdict : Type 0 where
  accepted : Verdict
  -- the first condition, at a `know` or a `rank` line
  known : (line : ℕ) → Verdict
  ranked : (line : ℕ) → Verdict
  -- the second, at a `seal` line, for these values of the free variables that stand there
  sealed : (line : ℕ) → (values : List (Option Atom)) → Verdict
  -- the third
  completed : Verdict
  -- the fourth, at a role's step, for this agent as `self` and these values of the role's variables
  acted : (role step agent : ℕ) → (values : List (Option Atom)) → Verdict

-- the number of the condition that fails; none where the sheet is accepted
abbrev pub failing : Verdict → Option ℕ
failing accepted = None
failing (known line) = Some 1
failing (ranked line) = Some 1
failing (sealed line values) = Some 2
failing completed = Some 3
failing (acted role step agent values) = Some 4

-- ---- the order of values

-- The number of an atom of its kind.
abbrev pub number : Atom → ℕ
number (Agent n) = n
number (Nonce n) = n
number (Text n) = n

-- the numbers of those that are there, in order
abbrev pub numbers : List (Option Atom) → List ℕ
numbers [] = []
numbers (None ∷ os) = numbers os
numbers (Some x ∷ os) = number x ∷ numbers os

-- ---- where a condition fails

-- A `know` line says a message that is not positive.
abbrev pub BadKnown : Scale → Sheet → ℕ → Type 0
BadKnown scale sheet i = (t : Term) × (slice_get sheet.known i ≡ Some t) × ((m : Msg) × (message names_alone t ≡ Some m) × (Positive scale sheet m → ⊥))

-- A `rank` line makes an atom not positive that the enemy has of its own.
abbrev pub BadRanked : Scale → Sheet → ℕ → Type 0
BadRanked scale sheet i = (l : Ranked Term) × (slice_get sheet.atoms i ≡ Some l) × ((m : Msg) × ListsMessage l.what m × Own sheet m × (Positive scale sheet m → ⊥))

-- Of the free variables, from that of number i on, those that stand in the term stand for an atom of their kind, and the others for nothing.
abbrev pub EachStanding : Term → ℕ → List Variable → List (Option Atom) → Type 0
EachStanding t i [] [] = Unit {0}
EachStanding t i [] (o ∷ os) = ⊥
EachStanding t i (v ∷ vs) [] = ⊥
EachStanding t i (v ∷ vs) (o ∷ os) = MatchBool (stands_in i t) ((x : Atom) × (o ≡ Some x) × Of (kind_of v.sort) x) (o ≡ None) × EachStanding t (i + 1) vs os

-- These values turn a `seal` line into a seal that no earlier line gives and whose key is positive, and line and content are not alike positive.
pub record BadSeal (scale : Scale) (sheet : Sheet) (i : ℕ) (values : List (Option Atom)) : Type 0 where
  pub line : Ranked Term
  pub is-line : slice_get sheet.seals i ≡ Some line
  pub each : EachStanding line.what 0 sheet.free values
  pub under : Key
  pub content : Msg
  pub is-seal : message (free_values values) line.what ≡ Some (seal under content)
  pub first : NoneEarlier sheet i (seal under content)
  pub key-positive : Positive scale sheet (key under)
  pub unlike : (scale.above line.rank ≡ true) ↔ Positive scale sheet content → ⊥

-- An instance of a role in which the step breaks the fourth condition.
pub record BadStep (scale : Scale) (sheet : Sheet) (r k a : ℕ) (values : List (Option Atom)) : Type 0 where
  pub role : Role
  pub is-role : slice_get sheet.roles r ≡ Some role
  pub is-instance : Instance sheet r role a values
  pub one-each : length values ≡ length role.variables
  pub action : Action
  pub is-action : does role (played a values) k ≡ Some action
  pub not-needed : (j : ℕ) (e : Event) → j < k + 1 → does role (played a values) j ≡ Some (signals e) → ListsEvent sheet.claim.needed e → ⊥
  pub all-received : (j : ℕ) (m : Msg) → j < k → does role (played a values) j ≡ Some (receives m) → Positive scale sheet m
  pub fails : Maintains scale sheet action → ⊥

-- ---- which answer is right

-- i is the first of which P holds.
pub record FirstOf (P : ℕ → Type 0) (i : ℕ) : Type 0 where
  pub is : P i
  pub none-before : (j : ℕ) → j < i → P j → ⊥

-- The first bad `seal` line, and the least values for which it is bad.
pub record LeastSeal (scale : Scale) (sheet : Sheet) (i : ℕ) (values : List (Option Atom)) : Type 0 where
  pub knowledge : KnowledgePositive scale sheet
  pub is : BadSeal scale sheet i values
  pub first : (j : ℕ) (others : List (Option Atom)) → j < i → BadSeal scale sheet j others → ⊥
  pub least : (others : List (Option Atom)) → BadSeal scale sheet i others → Less (numbers others) (numbers values) → ⊥

-- The first role with a bad step, its first bad step, and the least instance in which that step is bad: by the agent, then by the variables in order.
pub record LeastStep (scale : Scale) (sheet : Sheet) (r k a : ℕ) (values : List (Option Atom)) : Type 0 where
  pub knowledge : KnowledgePositive scale sheet
  pub agree : SealsAgree scale sheet
  pub completion : CompletionNot scale sheet
  pub is : BadStep scale sheet r k a values
  pub first-role : (q j b : ℕ) (others : List (Option Atom)) → q < r → BadStep scale sheet q j b others → ⊥
  pub first-step : (j b : ℕ) (others : List (Option Atom)) → j < k → BadStep scale sheet r j b others → ⊥
  pub least : (b : ℕ) (others : List (Option Atom)) → BadStep scale sheet r k b others → Less (b ∷ numbers others) (a ∷ numbers values) → ⊥

-- The verdict is right.
abbrev pub Judges : Scale → Sheet → Verdict → Type 0
Judges scale sheet accepted = Conditions scale sheet
Judges scale sheet (known i) = FirstOf (BadKnown scale sheet) i
Judges scale sheet (ranked i) = ((j : ℕ) → BadKnown scale sheet j → ⊥) × FirstOf (BadRanked scale sheet) i
Judges scale sheet (sealed i values) = LeastSeal scale sheet i values
Judges scale sheet completed = KnowledgePositive scale sheet × SealsAgree scale sheet × (CompletionNot scale sheet → ⊥)
Judges scale sheet (acted r k a values) = LeastStep scale sheet r k a values
