-- What a term is when `self` and the variables stand for something.
use Rattle.std.specs.Prelude.{ℕ, cond, List, [], Some, None, Option, nat_lt, slice_index_or}
use Rattle.std.specs.Option.{option_map}
use Rattle.message.specs.declared.Atom.{Atom}
use Rattle.message.specs.declared.Atom.TheVariants.{Agent, Nonce, Text}
use Rattle.message.specs.declared.Kind.{Kind}
use Rattle.message.specs.Message as messages
use Rattle.message.specs.Message.{Key, Msg, atom, key_of, single, size}
use Rattle.model.specs.declared.node.Field.{Field}
use Rattle.model.specs.declared.node.Field.TheVariants.{Player, Variable, Named}
use Rattle.model.specs.Trees.{Term, leaf, pair, key, seal}

-- The agent that plays the role, and what each variable stands for; none where nothing does.
pub record Values : Type 0 where
  pub player : Option ℕ
  pub variables : List (Option Atom)

-- Where nothing but names stands for something.
abbrev pub names_alone : Values
names_alone = record { player = None; variables = [] }

-- f of two that are there; none where one is missing
abbrev pub both : {A B C : Type 0} → (A → B → C) → Option A → Option B → Option C
both f None b = None
both f (Some a) None = None
both f (Some a) (Some b) = Some (f a b)

-- the atom of a kind and number, if the kind has one of that number
abbrev pub atom_at : Kind → ℕ → Option Atom
atom_at k n = cond (nat_lt n (size k)) (Some (atom k n)) None

-- what a field stands for
abbrev pub value : Values → Field → Option Atom
value v Player = option_map Agent v.player
value v (Variable i) = slice_index_or v.variables i None
value v (Named k n) = atom_at k n

-- the number of an agent; a nonce and a text are none
abbrev pub agent_number : Option Atom → Option ℕ
agent_number None = None
agent_number (Some (Agent n)) = Some n
agent_number (Some (Nonce n)) = None
agent_number (Some (Text n)) = None

-- the key of two fields that stand for agents
abbrev pub key_under : Values → Field → Field → Option Key
key_under v f g = both key_of (agent_number (value v f)) (agent_number (value v g))

-- The message that a term is; none where something in it stands for nothing, or a key's agent for no agent.
abbrev pub message : Values → Term → Option Msg
message v (leaf f) = option_map single (value v f)
message v (pair l r) = both messages.pair (message v l) (message v r)
message v (key f g) = option_map messages.key (key_under v f g)
message v (seal f g t) = both messages.seal (key_under v f g) (message v t)
