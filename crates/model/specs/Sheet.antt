-- The link sheet: who takes part, their scripts, what the enemy knows beforehand, the claim, and the table of ranks.
use Rattle.std.specs.Prelude.{ℕ, Bool, false, not, ◌&&◌, List, length, ℤ, Some, None, Option, ◌==◌}
use Rattle.std.specs.List.{slice_get}
use Rattle.message.specs.declared.Kind.{Kind}
use Rattle.message.specs.declared.Kind.TheVariants as kind
use Rattle.model.specs.declared.node.Field.{Field}
use Rattle.model.specs.declared.node.Sort.{Sort}
use Rattle.model.specs.Trees.{Term}

-- An event as a script or a line writes it: a signal word, and atoms in order.
pub record Signal : Type 0 where
  pub word : List ℕ
  pub fields : List Field

-- A step of a script.
pub data Step : Type 0 where
  send : Term → Step
  receive : Term → Step
  signal : Signal → Step

pub record Agent : Type 0 where
  pub name : List ℕ
  pub enemy : Bool

-- A fresh variable is a nonce of the session's own. Any other is received, or chosen at the start.
pub record Variable : Type 0 where
  pub name : List ℕ
  pub sort : Sort

-- With no player, every honest agent may play the role.
pub record Role : Type 0 where
  pub name : List ℕ
  pub player : Option ℕ
  pub variables : List Variable
  pub steps : List Step

-- A named nonce: for an agent, a role and a fresh variable there.
pub record Nonce : Type 0 where
  pub name : List ℕ
  pub agent : ℕ
  pub role : ℕ
  pub variable : ℕ

-- The completion is claimed to come only after the needed event.
pub record Claim : Type 0 where
  pub completion : Signal
  pub needed : Signal

-- A line that gives a rank.
pub record Ranked (A : Type 0) : Type 0 where
  pub rank : ℤ
  pub what : A

-- Agents, texts, roles and nonces are numbered from 0 in sheet order, and so are a role's variables and the free ones.
pub record Sheet : Type 0 where
  pub agents : List Agent
  pub texts : List (List ℕ)
  pub roles : List Role
  pub nonces : List Nonce
  pub known : List Term
  pub claim : Claim
  pub free : List Variable
  pub atoms : List (Ranked Term)
  pub seals : List (Ranked Term)
  pub marks : List (Ranked Signal)

-- How many agents, nonces and texts have a name. They are numbered from 0, and other numbers are unnamed.
abbrev pub named : Sheet → Kind → ℕ
named m kind.Agent = length m.agents
named m kind.Nonce = length m.nonces
named m kind.Text = length m.texts

-- An honest agent is one that is named and not marked as the enemy's.
abbrev pub honest : Option Agent → Bool
honest None = false
honest (Some a) = not a.enemy

-- The player alone plays its role; without one every honest agent may.
abbrev pub may_play : List Agent → Option ℕ → ℕ → Bool
may_play agents None a = honest (slice_get agents a)
may_play agents (Some p) a = p == a

-- A session of the role is played by an honest agent, which is the player if the role has one.
abbrev pub plays : List Agent → Option ℕ → ℕ → Bool
plays agents player a = honest (slice_get agents a) && may_play agents player a

-- The nonce is named for variable i of role r where agent a plays it.
abbrev pub is_for : (r a i : ℕ) → Nonce → Bool
is_for r a i n = n.agent == a && (n.role == r && n.variable == i)
