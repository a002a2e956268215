-- What the enemy knows at the start.
use Rattle.std.specs.Prelude.{◌≡◌, ℕ, ◌<◌, ◌≤◌, false, ◌⊎◌, Some}
use Rattle.std.specs.List.{slice_get}
use Rattle.message.specs.declared.Kind.TheVariants as kind
use Rattle.message.specs.Message.{KeyFits, Msg, agent, key, nonce, pair, seal, shared, size, text}
use Rattle.model.specs.Sheet.{Sheet, honest, named}
use Rattle.model.specs.Trees.{Term}
use Rattle.instances.specs.Substitution.{message, names_alone}

-- An agent that is unnamed or marked as the enemy's.
abbrev pub Enemys : Sheet → ℕ → Type 0
Enemys sheet a = honest (slice_get sheet.agents a) ≡ false

-- Every agent, every unnamed nonce and text, and every key with an enemy's agent in it.
abbrev pub Own : Sheet → Msg → Type 0
Own sheet (agent n) = n < size kind.Agent
Own sheet (nonce n) = (named sheet kind.Nonce ≤ n) × (n < size kind.Nonce)
Own sheet (text n) = (named sheet kind.Text ≤ n) × (n < size kind.Text)
Own sheet (key (shared a b)) = KeyFits (shared a b) × (Enemys sheet a ⊎ Enemys sheet b)
Own sheet (pair l r) = ⊥
Own sheet (seal k m) = ⊥

-- What a `know` line says.
abbrev pub Told : Sheet → Msg → Type 0
Told sheet m = (i : ℕ) × (t : Term) × (slice_get sheet.known i ≡ Some t) × (message names_alone t ≡ Some m)

-- What the enemy knows at the start.
abbrev pub Start : Sheet → Msg → Type 0
Start sheet m = Own sheet m ⊎ Told sheet m
