-- The instances of a role: an agent that plays it, and what each of its variables stands for.
use Rattle.std.specs.Prelude.{◌≡◌, ℕ, ◌<◌, ◌≤◌, true, ◌⊎◌, List, Some, None, Option, slice_index_or}
use Rattle.std.specs.List.{slice_get}
use Rattle.message.specs.declared.Atom.{Atom}
use Rattle.message.specs.declared.Kind.{Kind}
use Rattle.message.specs.declared.Kind.TheVariants as kind
use Rattle.message.specs.Message.{atom, size}
use Rattle.model.specs.declared.node.Sort.{Sort}
use Rattle.model.specs.declared.node.Sort.TheVariants.{Fresh, Plain}
use Rattle.model.specs.Sheet.{Nonce, Role, Sheet, Variable, honest, may_play, named}
use Rattle.instances.specs.Substitution.{Values}

-- The atom is one of this kind.
abbrev pub Of : Kind → Atom → Type 0
Of k x = (n : ℕ) × (n < size k) × (x ≡ atom k n)

-- An agent that is named and not the enemy's.
abbrev pub Honest : Sheet → ℕ → Type 0
Honest sheet a = honest (slice_get sheet.agents a) ≡ true

-- The agent may play the role: its player alone may, and every honest agent where it has none.
abbrev pub MayPlay : Sheet → Role → ℕ → Type 0
MayPlay sheet role a = may_play sheet.agents role.player a ≡ true

-- The nonce of this number is named for variable i of role r where agent a plays it.
pub record NamedFor (sheet : Sheet) (r a i n : ℕ) : Type 0 where
  pub line : Nonce
  pub is-line : slice_get sheet.nonces n ≡ Some line
  pub agent : line.agent ≡ a
  pub role : line.role ≡ r
  pub variable : line.variable ≡ i

-- What variable i of role r may stand for where agent a plays it: a fresh one for an unnamed nonce or one named for that agent,
-- role and variable, any other for every atom of its kind.
abbrev pub Allowed : Sheet → (r a i : ℕ) → Sort → Atom → Type 0
Allowed sheet r a i Fresh x = (n : ℕ) × (n < size kind.Nonce) × (x ≡ atom kind.Nonce n) × ((named sheet kind.Nonce ≤ n) ⊎ NamedFor sheet r a i n)
Allowed sheet r a i (Plain k) x = Of k x

-- Agent a and these values are an instance of the role of number r: a is an honest agent that may play it,
-- and each variable of the role, and nothing else, stands for something that it may stand for.
pub record Instance (sheet : Sheet) (r : ℕ) (role : Role) (a : ℕ) (variables : List (Option Atom)) : Type 0 where
  pub is-honest : Honest sheet a
  pub plays : MayPlay sheet role a
  pub whole : (i : ℕ) (v : Variable) → slice_get role.variables i ≡ Some v → (x : Atom) × (slice_index_or variables i None ≡ Some x) × Allowed sheet r a i v.sort x
  pub declared : (i : ℕ) (x : Atom) → slice_index_or variables i None ≡ Some x → (v : Variable) × (slice_get role.variables i ≡ Some v)

-- the values of a role's script where agent a plays it
abbrev pub played : ℕ → List (Option Atom) → Values
played a variables = record { player = Some a; variables = variables }
