-- Where a variable stands in a script, and whether it is received.
use Rattle.std.specs.Prelude.{ℕ, Bool, true, false, cond, ◌||◌, List, [], ◌∷◌, ◌==◌}
use Rattle.std.specs.List.{list_any}
use Rattle.model.specs.declared.node.Field.{Field}
use Rattle.model.specs.declared.node.Field.TheVariants.{Player, Variable, Named}
use Rattle.model.specs.declared.node.Node.{Node}
use Rattle.model.specs.declared.node.Node.TheVariants as node
use Rattle.model.specs.Sheet.{Step, send, receive, signal}
use Rattle.model.specs.Trees.{Term, leaf, pair, key, seal}

-- The atom is the variable of this number.
abbrev pub is_variable : ℕ → Field → Bool
is_variable i Player = false
is_variable i (Variable j) = i == j
is_variable i (Named k n) = false

-- The variable stands in a term.
abbrev pub stands_in : ℕ → Term → Bool
stands_in i (leaf f) = is_variable i f
stands_in i (pair l r) = stands_in i l || stands_in i r
stands_in i (key f g) = is_variable i f || is_variable i g
stands_in i (seal f g t) = is_variable i f || (is_variable i g || stands_in i t)

-- The same by nodes: the variable is an atom of one of them.
abbrev pub stands_at : ℕ → Node → Bool
stands_at i (node.Leaf f) = is_variable i f
stands_at i node.Pair = false
stands_at i (node.Key f g) = is_variable i f || is_variable i g
stands_at i (node.Seal f g) = is_variable i f || is_variable i g

abbrev pub stands_at_some : ℕ → List Node → Bool
stands_at_some i ns = list_any (stands_at i) ns

-- The variable is one of these atoms.
abbrev pub stands_among : ℕ → List Field → Bool
stands_among i fs = list_any (is_variable i) fs

-- The variable stands in what the step sends, receives or signals.
abbrev pub stands_in_step : ℕ → Step → Bool
stands_in_step i (send t) = stands_in i t
stands_in_step i (receive t) = stands_in i t
stands_in_step i (signal s) = stands_among i s.fields

-- The step receives a term.
abbrev pub receives : Step → Bool
receives (send t) = false
receives (receive t) = true
receives (signal s) = false

-- The variable is received: the first step in which it stands receives.
abbrev pub received : ℕ → List Step → Bool
received i [] = false
received i (s ∷ ss) = cond (stands_in_step i s) (receives s) (received i ss)
