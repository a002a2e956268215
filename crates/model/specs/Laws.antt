-- Laws of terms, each on the contract of a call of its own.
use Rattle.std.specs.Prelude.{◌≡◌, true, List}
use Rattle.model.specs.declared.node.Node.{Node}
use Rattle.model.specs.Trees.{Term, are_terms, prefix, tree}

-- A term and its nodes in prefix order determine each other.
abbrev pub PrefixOrder : Type 0
PrefixOrder = ((t : Term) → (tree (prefix t) ≡ t) × (are_terms 1 (prefix t) ≡ true)) × ((ns : List Node) → are_terms 1 ns ≡ true → prefix (tree ns) ≡ ns)
