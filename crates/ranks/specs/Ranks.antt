-- The ranks of messages and events under a sheet, on a scale.
use Rattle.std.specs.Prelude.{◌≡◌, ℕ, true, ◌⊎◌, List, [], ◌∷◌, ℤ, Some, None, Option}
use Rattle.std.specs.List.{slice_get}
use Rattle.message.specs.declared.Atom.{Atom}
use Rattle.message.specs.declared.Kind.{Kind}
use Rattle.message.specs.declared.Kind.TheVariants as kind
use Rattle.message.specs.Message.{IsMessage, Msg, Reads, agent, nonce, text, key, pair, seal}
use Rattle.model.specs.declared.node.Sort.{Sort}
use Rattle.model.specs.declared.node.Sort.TheVariants.{Fresh, Plain}
use Rattle.model.specs.Sheet.{Ranked, Sheet, Signal, Variable}
use Rattle.model.specs.Trees.{Term}
use Rattle.instances.specs.Actions.{Event, event}
use Rattle.instances.specs.Instances.{Of}
use Rattle.instances.specs.Substitution.{Values, message, names_alone}
use Rattle.scale.specs.Scales.{Scale}

-- ---- what a line lists

-- The message, or event, that a `rank` or `mark` line gives a rank: names alone stand for something there.
abbrev pub ListsMessage : Term → Msg → Type 0
ListsMessage t m = message names_alone t ≡ Some m

abbrev pub ListsEvent : Signal → Event → Type 0
ListsEvent s e = event names_alone s ≡ Some e

-- A fresh variable, which is never a free one, would be a nonce.
abbrev pub kind_of : Sort → Kind
kind_of Fresh = kind.Nonce
kind_of (Plain k) = k

-- Each of the free variables, in order, stands for an atom of its kind, and nothing else stands for something.
abbrev pub EachOf : List Variable → List (Option Atom) → Type 0
EachOf [] [] = Unit {0}
EachOf [] (o ∷ os) = ⊥
EachOf (v ∷ vs) [] = ⊥
EachOf (v ∷ vs) (o ∷ os) = ((x : Atom) × (o ≡ Some x) × Of (kind_of v.sort) x) × EachOf vs os

-- Outside roles nobody plays.
abbrev pub free_values : List (Option Atom) → Values
free_values vars = record { player = None; variables = vars }

-- Some values of the free variables turn the term into the message.
abbrev pub Gives : List Variable → Term → Msg → Type 0
Gives free t m = (vars : List (Option Atom)) × EachOf free vars × (message (free_values vars) t ≡ Some m)

-- Some values turn the term into the message that the bytes are.
abbrev pub GivesBytes : List Variable → Term → List ℕ → Type 0
GivesBytes free t bytes = (m : Msg) × Reads bytes m × Gives free t m

-- A line lists the event that a signal is.
abbrev pub ListsSignal : Signal → Option Event → Type 0
ListsSignal line o = (e : Event) × (o ≡ Some e) × ListsEvent line e

-- ---- ranks

-- v is the rank of the first line of which P holds; where it holds of none, v is as Else says.
abbrev pub First : {A : Type 0} → (A → Type 0) → (ℤ → Type 0) → List (Ranked A) → ℤ → Type 0
First P Else [] v = Else v
First P Else (l ∷ ls) v = (P l.what × (v ≡ l.rank)) ⊎ ((P l.what → ⊥) × First P Else ls v)

-- v is the rank of the first line of which P holds, else the fixed value.
abbrev pub Listed : {A : Type 0} → Scale → (A → Type 0) → List (Ranked A) → ℤ → Type 0
Listed scale P lines v = First P (λ u. u ≡ scale.fixed) lines v

-- A listed atom has its line's rank, any other the fixed value.
abbrev pub AtomRank : Scale → Sheet → Msg → ℤ → Type 0
AtomRank scale sheet m v = Listed scale (λ t. ListsMessage t m) sheet.atoms v

-- The message has the rank v. A pair has the joined rank. A seal has that of the first `seal` line that some values of the free variables
-- turn into it, else its content's.
abbrev pub Rank : Scale → Sheet → Msg → ℤ → Type 0
Rank scale sheet (agent n) v = AtomRank scale sheet (agent n) v
Rank scale sheet (nonce n) v = AtomRank scale sheet (nonce n) v
Rank scale sheet (text n) v = AtomRank scale sheet (text n) v
Rank scale sheet (key k) v = AtomRank scale sheet (key k) v
Rank scale sheet (pair l r) v = (u : ℤ) × (w : ℤ) × Rank scale sheet l u × Rank scale sheet r w × (v ≡ scale.joined u w)
Rank scale sheet (seal k m) v = First (λ t. Gives sheet.free t (seal k m)) (λ u. Rank scale sheet m u) sheet.seals v

-- The rank of the message that the bytes are; none where they are no message.
abbrev pub RankOf : Scale → Sheet → List ℕ → Option ℤ → Type 0
RankOf scale sheet bytes None = IsMessage bytes → ⊥
RankOf scale sheet bytes (Some v) = (m : Msg) × Reads bytes m × Rank scale sheet m v

abbrev pub event_of : List ℕ → List Atom → Event
event_of word atoms = record { word = word; atoms = atoms }

-- A marked event has its line's rank, any other the fixed value.
abbrev pub EventRank : Scale → Sheet → Event → ℤ → Type 0
EventRank scale sheet e v = Listed scale (λ s. ListsEvent s e) sheet.marks v

-- The rank of the event that a signal is; none where it is none.
abbrev pub SignalRank : Scale → Sheet → Option Event → Option ℤ → Type 0
SignalRank scale sheet None r = r ≡ None
SignalRank scale sheet (Some e) None = ⊥
SignalRank scale sheet (Some e) (Some v) = EventRank scale sheet e v

abbrev pub Positive : Scale → Sheet → Msg → Type 0
Positive scale sheet m = (v : ℤ) × Rank scale sheet m v × (scale.above v ≡ true)

-- The bytes are a positive message.
abbrev pub IsPositive : Scale → Sheet → List ℕ → Type 0
IsPositive scale sheet bytes = (m : Msg) × Reads bytes m × Positive scale sheet m

abbrev pub PositiveEvent : Scale → Sheet → Event → Type 0
PositiveEvent scale sheet e = (v : ℤ) × EventRank scale sheet e v × (scale.above v ≡ true)

-- ---- values of the scale

-- The rank of each line is one of the scale's values.
abbrev pub EachValued : {A : Type 0} → Scale → List (Ranked A) → Type 0
EachValued {A} scale lines = (i : ℕ) (l : Ranked A) → slice_get lines i ≡ Some l → scale.has l.rank ≡ true

-- Every rank that a line of the sheet gives is one of the scale's values.
pub record Valued (scale : Scale) (sheet : Sheet) : Type 0 where
  pub atoms : EachValued scale sheet.atoms
  pub seals : EachValued scale sheet.seals
  pub marks : EachValued scale sheet.marks
