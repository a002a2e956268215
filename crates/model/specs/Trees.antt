-- Terms as trees, and the nodes by which they are kept.
use Rattle.std.specs.Prelude.{ℕ, ◌+◌, ◌-◌, Bool, ◌&&◌, List, [], ◌∷◌, ◌++◌, ◌==◌, nat_le}
use Rattle.model.specs.declared.node.Field.{Field}
use Rattle.model.specs.declared.node.Field.TheVariants.{Player}
use Rattle.model.specs.declared.node.Node.{Node}
use Rattle.model.specs.declared.node.Node.TheVariants as node

-- A term: an atom, a pair of terms, the key of two agents, or a term sealed under such a key.
pub data Term : Type 0 where
  leaf : Field → Term
  pair : Term → Term → Term
  key : Field → Field → Term
  seal : Field → Field → Term → Term

-- Its nodes in prefix order: each stands before the terms that belong to it.
abbrev pub prefix : Term → List Node
prefix (leaf f) = node.Leaf f ∷ []
prefix (pair l r) = node.Pair ∷ prefix l ++ prefix r
prefix (key f g) = node.Key f g ∷ []
prefix (seal f g t) = node.Seal f g ∷ prefix t

-- How many terms belong to a node, and how many words of a line it has.
abbrev pub arity : Node → ℕ
arity (node.Leaf f) = 0
arity node.Pair = 2
arity (node.Key f g) = 0
arity (node.Seal f g) = 1

abbrev pub words_at : Node → ℕ
words_at (node.Leaf f) = 1
words_at node.Pair = 1
words_at (node.Key f g) = 3
words_at (node.Seal f g) = 3

-- The nodes are exactly n terms, one after another.
abbrev pub are_terms : ℕ → List Node → Bool
are_terms n [] = n == 0
are_terms n (x ∷ ns) = nat_le 1 n && are_terms (n - 1 + arity x) ns

-- How many words of a line the nodes have.
abbrev pub word_count : List Node → ℕ
word_count [] = 0
word_count (x ∷ ns) = words_at x + word_count ns

-- The nodes are one term, of at most 32 words.
abbrev pub is_term : List Node → Bool
is_term ns = are_terms 1 ns && nat_le (word_count ns) 32

-- the first of some terms, and the others; any term where there is none
abbrev pub top : List Term → Term
top [] = leaf Player
top (t ∷ ts) = t

abbrev pub others : List Term → List Term
others [] = []
others (t ∷ ts) = ts

-- The terms that nodes are: a node takes as many of the terms after it as belong to it.
abbrev pub terms : List Node → List Term
terms [] = []
terms (node.Leaf f ∷ ns) = leaf f ∷ terms ns
terms (node.Pair ∷ ns) = pair (top (terms ns)) (top (others (terms ns))) ∷ others (others (terms ns))
terms (node.Key f g ∷ ns) = key f g ∷ terms ns
terms (node.Seal f g ∷ ns) = seal f g (top (terms ns)) ∷ others (terms ns)

abbrev pub tree : List Node → Term
tree ns = top (terms ns)
