-- What the code's records stand for.
use Rattle.std.specs.Prelude.{◌≡◌, true, false, List, map, Some, None, vec_items, Option, Vec}
use Rattle.std.specs.declared.alloc.Global.{Global}
use Rattle.model.specs.declared.stored.Agent.{Agent}
use Rattle.model.specs.declared.stored.Claim.{Claim}
use Rattle.model.specs.declared.stored.Nonce.{Nonce}
use Rattle.model.specs.declared.stored.Ranked.{Ranked}
use Rattle.model.specs.declared.term.Term.{Term}
use Rattle.model.specs.declared.stored.Role.{Role}
use Rattle.model.specs.declared.stored.Sealed.{Sealed}
use Rattle.model.specs.declared.stored.Signal.{Signal}
use Rattle.model.specs.declared.stored.Step.{Step}
use Rattle.model.specs.declared.stored.Step.TheVariants as step
use Rattle.model.specs.declared.stored.Variable.{Variable}
use Rattle.model.specs.declared.node.Node.{Node}
use Rattle.model.specs.Names.{letters}
use Rattle.model.specs.Sheet as model
use Rattle.model.specs.Trees as trees
use Rattle.model.specs.Trees.{is_term, tree}

abbrev pub items : {X M : Type 0} → (X → M) → Vec X Global → List M
items of v = map of (vec_items v)

abbrev pub agent_of : Agent → model.Agent
agent_of a = record { name = letters a.name; enemy = a.enemy }

abbrev pub variable_of : Variable → model.Variable
variable_of v = record { name = letters v.name; sort = v.sort }

abbrev pub term_of : Term → trees.Term
term_of t = tree (vec_items t.nodes)

-- The term of these nodes; none where they are not one term, or have more than 32 words.
abbrev pub Whole : List Node → Option Term → Type 0
Whole ns None = is_term ns ≡ false
Whole ns (Some t) = (is_term ns ≡ true) × (term_of t ≡ tree ns)

abbrev pub sealed_of : Sealed → trees.Term
sealed_of s = trees.seal s.first s.second (term_of s.content)

abbrev pub signal_of : Signal → model.Signal
signal_of s = record { word = letters s.word; fields = vec_items s.fields }

abbrev pub step_of : Step → model.Step
step_of (step.Send t) = model.send (term_of t)
step_of (step.Receive t) = model.receive (term_of t)
step_of (step.Signal s) = model.signal (signal_of s)

abbrev pub role_of : Role → model.Role
role_of r = record { name = letters r.name; player = r.player; variables = items variable_of r.variables; steps = items step_of r.steps }

abbrev pub nonce_of : Nonce → model.Nonce
nonce_of n = record { name = letters n.name; agent = n.agent; role = n.role; variable = n.variable }

abbrev pub claim_of : Claim → model.Claim
claim_of c = record { completion = signal_of c.completion; needed = signal_of c.needed }

abbrev pub ranked_of : {X M : Type 0} → (X → M) → Ranked X → model.Ranked M
ranked_of of r = record { rank = r.rank; what = of r.what }
