-- A sheet as far as it is read: what there is so far, which names are taken, where variables first stand, and where lines lie.
use Rattle.std.specs.Prelude.{ℕ, Bool, true, false, not, ◌&&◌, ◌||◌, List, [], ◌∷◌, Option}
use Rattle.std.specs.Str.{bytes_eq}
use Rattle.draft.specs.declared.draft.Part.{Part}
use Rattle.terms.specs.declared.usages.Usage.{Usage}
use Rattle.model.specs.declared.node.Node.{Node}
use Rattle.model.specs.Names.{is_name}
use Rattle.model.specs.Sheet.{Agent, Claim, Nonce, Ranked, Role, Signal, Step, Variable}
use Rattle.model.specs.Trees.{Term}
use Rattle.terms.specs.Terms.{Scope, agent_names, has, nonce_names, role_names, variable_names}

-- The role that is being read: its name and player.
pub record Title : Type 0 where
  pub name : List ℕ
  pub player : Option ℕ

-- Who and what has a name.
pub record Cast : Type 0 where
  pub agents : List Agent
  pub texts : List (List ℕ)
  pub roles : List Role
  pub nonces : List Nonce

-- The role that is being read.
pub record Script : Type 0 where
  pub title : Title
  pub variables : List Variable
  pub usages : List Usage
  pub steps : List Step

-- The table of ranks.
pub record Table : Type 0 where
  pub free : List Variable
  pub usages : List Usage
  pub atoms : List (Ranked Node)
  pub seals : List (Ranked Term)
  pub marks : List (Ranked Signal)

-- What is read so far, which lines may come next, and the lines of the section words, counted from 1.
pub record Draft : Type 0 where
  pub part : Part
  pub sections : List ℕ
  pub cast : Cast
  pub script : Script
  pub known : List Term
  pub claim : Option Claim
  pub table : Table

-- ---- names

-- some role above has a variable of this name
abbrev pub variable_above : List Role → List ℕ → Bool
variable_above [] w = false
variable_above (r ∷ rs) w = has (variable_names r.variables) w || variable_above rs w

-- agents, texts, roles and nonces share one space of names
unfoldable pub taken : Cast → List ℕ → Bool
taken c w = has (agent_names c.agents) w || (has c.texts w || (has (role_names c.roles) w || has (nonce_names c.nonces) w))

-- a new agent, text, role or nonce; a new variable of the role that is being read; a new free variable
unfoldable pub new_name : Cast → List ℕ → Bool
new_name c w = is_name w && not (taken c w || variable_above c.roles w)

unfoldable pub new_variable : Cast → Script → List ℕ → Bool
new_variable c s w = is_name w && not (taken c w || (bytes_eq s.title.name w || has (variable_names s.variables) w))

unfoldable pub new_free : Cast → Table → List ℕ → Bool
new_free c t w = is_name w && not (taken c w || has (variable_names t.free) w)

-- ---- where names stand

abbrev pub script_scope : Cast → Script → Scope
script_scope c s = record { script = true; variables = s.variables; agents = c.agents; texts = c.texts; nonces = [] }

abbrev pub named_scope : Cast → Scope
named_scope c = record { script = false; variables = []; agents = c.agents; texts = c.texts; nonces = c.nonces }

abbrev pub free_scope : Cast → Table → Scope
free_scope c t = record { script = false; variables = t.free; agents = c.agents; texts = c.texts; nonces = c.nonces }
