-- What is found where lines are looked through for the first bad one.
use Rattle.std.specs.Prelude.{◌≡◌, ℕ, Some, None, Option}
use Rattle.message.specs.Message.{Msg, key, key_of, single}
use Rattle.model.specs.Sheet.{Sheet}
use Rattle.model.specs.Trees.{Term}
use Rattle.instances.specs.Start.{Own}
use Rattle.instances.specs.Substitution.{message, names_alone}
use Rattle.scale.specs.Scales.{Scale}
use Rattle.ranks.specs.Ranks.{ListsMessage, Positive}
use Rattle.checker.specs.declared.knowledge.Listed.{Listed}
use Rattle.checker.specs.declared.knowledge.Listed.TheVariants as listed
use Rattle.checker.specs.Verdicts.{FirstOf}

-- The first number of which P holds; none where it holds of none.
abbrev pub FirstIfAny : (ℕ → Type 0) → Option ℕ → Type 0
FirstIfAny P None = (i : ℕ) → P i → ⊥
FirstIfAny P (Some i) = FirstOf P i

-- A `know` line of this term is bad: it says a message that is not positive.
abbrev pub TellsBad : Scale → Sheet → Term → Type 0
TellsBad scale sheet t = (m : Msg) × (message names_alone t ≡ Some m) × (Positive scale sheet m → ⊥)

-- the message that a `rank` line lists
abbrev pub msg_of : Listed → Msg
msg_of (listed.Single x) = single x
msg_of (listed.Key a b) = key (key_of a b)

-- A `rank` line of this atom is bad: the enemy has the atom of its own, and it is not positive.
abbrev pub ListsBad : Scale → Sheet → Term → Type 0
ListsBad scale sheet t = (m : Msg) × ListsMessage t m × Own sheet m × (Positive scale sheet m → ⊥)
