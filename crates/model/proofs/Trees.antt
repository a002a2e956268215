-- Nodes in prefix order and the terms that they are.
use Rattle.std.proofs.Common.{◌≡◌, ℕ, ◌+◌, ◌-◌, ◌≤◌, true, ◌&&◌, leb, List, [], ◌∷◌, ◌++◌, length, sym, refl, ap, ◌∙◌, append_assoc, arith}
use Rattle.std.proofs.lemmas.List.{append-nil}
use Rattle.std.proofs.lemmas.Bool.{and_parts, eqb-true, le-leb, leb-true}
use Rattle.model.specs.declared.node.Node.{Node}
use Rattle.model.specs.declared.node.Node.TheVariants as node
use Rattle.model.specs.declared.node.Field.{Field}
use Rattle.model.specs.Trees.{Term, leaf, pair, key, seal, arity, are_terms, others, prefix, terms, top, tree}
use Rattle.model.specs.Laws.{PrefixOrder}
use Rattle.model.specs.Codes.{tree_prefix}

-- the nodes of some terms, one after another
abbrev prefixes : List Term → List Node
prefixes [] = []
prefixes (t ∷ ts) = prefix t ++ prefixes ts

-- a first node, and the terms that are to come after it
pub after-node : (x : Node) (n k : ℕ) (ns : List Node) → 1 ≤ n → k ≡ n - 1 + arity x → are_terms n (x ∷ ns) ≡ are_terms k ns
after-node x n k ns h e = ap (λ b. b && are_terms (n - 1 + arity x) ns) (le-leb 1 n h) ∙ ap (λ m. are_terms m ns) (sym e)

-- a term's nodes are one term more than those after them
one_more : (t : Term) (n : ℕ) (ns : List Node) → are_terms (n + 1) (prefix t ++ ns) ≡ are_terms n ns
one_more (leaf f) n ns = after-node (node.Leaf f) (n + 1) n ns (omega arith) (omega arith)
one_more (pair l r) n ns =
    after-node node.Pair (n + 1) (n + 1 + 1) ((prefix l ++ prefix r) ++ ns) (omega arith) (omega arith)
    ∙ ap (are_terms (n + 1 + 1)) (append_assoc (prefix l) (prefix r) ns)
    ∙ one_more l (n + 1) (prefix r ++ ns)
    ∙ one_more r n ns
one_more (key f g) n ns = after-node (node.Key f g) (n + 1) n ns (omega arith) (omega arith)
one_more (seal f g t) n ns = after-node (node.Seal f g) (n + 1) (n + 1) (prefix t ++ ns) (omega arith) (omega arith) ∙ one_more t n ns

-- the nodes of two terms under a pair, and of one under a seal
paired : (ts : List Term) → 2 ≤ length ts → prefixes (pair (top ts) (top (others ts)) ∷ others (others ts)) ≡ node.Pair ∷ prefixes ts
paired [] h = absurd (omega arith)
paired (t ∷ []) h = absurd (omega arith)
paired (l ∷ r ∷ ts) h = ap (λ ns. node.Pair ∷ ns) (append_assoc (prefix l) (prefix r) (prefixes ts))

sealed : (f g : Field) (ts : List Term) → 1 ≤ length ts → prefixes (seal f g (top ts) ∷ others ts) ≡ node.Seal f g ∷ prefixes ts
sealed f g [] h = absurd (omega arith)
sealed f g (t ∷ ts) h = refl

-- without the first of n terms' nodes, the terms that are then to come are left
rest-are : (x : Node) (n : ℕ) (ns : List Node) → are_terms n (x ∷ ns) ≡ true → (1 ≤ n) × (are_terms (n - 1 + arity x) ns ≡ true)
rest-are x n ns e = let p = and_parts (leb 1 n) _ e in (leb-true 1 n p.0, p.1)

-- how many terms there are with a pair of two, and with a seal of one
count-paired : (ts : List Term) (k : ℕ) → length ts ≡ k + 2 → length (others (others ts)) ≡ k
count-paired [] k e = absurd (omega arith)
count-paired (t ∷ []) k e = absurd (omega arith)
count-paired (l ∷ r ∷ ts) k e = omega arith

count-sealed : (ts : List Term) (k : ℕ) → length ts ≡ k + 1 → length (others ts) ≡ k
count-sealed [] k e = absurd (omega arith)
count-sealed (t ∷ ts) k e = omega arith

-- nodes that are n terms are the nodes of those terms
are-prefixes : (n : ℕ) (ns : List Node) → are_terms n ns ≡ true → (length (terms ns) ≡ n) × (prefixes (terms ns) ≡ ns)
are-prefixes n [] e = (sym (eqb-true n 0 e), refl)
are-prefixes n (node.Leaf f ∷ ns) e =
    let p = rest-are (node.Leaf f) n ns e in
    let q = are-prefixes (n - 1 + 0) ns p.1 in
    (omega arith, ap (λ ms. node.Leaf f ∷ ms) q.1)
are-prefixes n (node.Pair ∷ ns) e =
    let p = rest-are node.Pair n ns e in
    let q = are-prefixes (n - 1 + 2) ns p.1 in
    (omega (arith, count-paired (terms ns) (n - 1) q.0), paired (terms ns) (omega arith) ∙ ap (λ ms. node.Pair ∷ ms) q.1)
are-prefixes n (node.Key f g ∷ ns) e =
    let p = rest-are (node.Key f g) n ns e in
    let q = are-prefixes (n - 1 + 0) ns p.1 in
    (omega arith, ap (λ ms. node.Key f g ∷ ms) q.1)
are-prefixes n (node.Seal f g ∷ ns) e =
    let p = rest-are (node.Seal f g) n ns e in
    let q = are-prefixes (n - 1 + 1) ns p.1 in
    (omega (arith, count-sealed (terms ns) (n - 1) q.0), sealed f g (terms ns) (omega arith) ∙ ap (λ ms. node.Seal f g ∷ ms) q.1)

-- the one term of its nodes
sole : (ts : List Term) → length ts ≡ 1 → prefixes ts ≡ prefix (top ts)
sole [] e = absurd (omega arith)
sole (t ∷ []) e = append-nil (prefix t)
sole (t ∷ u ∷ ts) e = absurd (omega arith)

pub prefix_tree : (ns : List Node) → are_terms 1 ns ≡ true → prefix (tree ns) ≡ ns
prefix_tree ns e = let q = are-prefixes 1 ns e in sym (sole (terms ns) q.0) ∙ q.1

pub prefix_order : PrefixOrder
prefix_order = (
  λ t. (
    tree_prefix t,
    ap (are_terms 1) (sym (append-nil (prefix t))) ∙ one_more t 0 [],
  ),
  prefix_tree,
)
