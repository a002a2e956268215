-- A term is told apart from others by its nodes, which give it back.
use Rattle.std.specs.Prelude.{◌≡◌, List, [], ◌∷◌, ◌++◌}
use Rattle.std.proofs.Common.{sym, refl, ap, ◌∙◌, append_assoc}
use Rattle.std.proofs.lemmas.List.{append-nil}
use Rattle.std.specs.Coded.{Coded, code_by, coded_list}
use Rattle.model.specs.declared.node.Node.{Node}
use Rattle.model.specs.declared.node.Node.TheVariants as node
use Rattle.model.specs.contracts.node.Node as row
use Rattle.model.specs.Trees.{Term, leaf, pair, key, seal, others, prefix, terms, top, tree}

-- a term's nodes are read back as that term, whatever comes after them
pub read_back : (t : Term) (ns : List Node) → terms (prefix t ++ ns) ≡ t ∷ terms ns
read_back (leaf f) ns = refl
read_back (pair l r) ns =
    ap (λ ms. terms (node.Pair ∷ ms)) (append_assoc (prefix l) (prefix r) ns)
    ∙ ap (λ ts. pair (top ts) (top (others ts)) ∷ others (others ts)) (read_back l (prefix r ++ ns) ∙ ap (λ ts. l ∷ ts) (read_back r ns))
read_back (key f g) ns = refl
read_back (seal f g t) ns = ap (λ ts. seal f g (top ts) ∷ others ts) (read_back t ns)

pub tree_prefix : (t : Term) → tree (prefix t) ≡ t
tree_prefix t = ap (λ ns. tree ns) (sym (append-nil (prefix t))) ∙ ap top (read_back t [])

abbrev pub term_code : Coded Term
term_code = code_by (List Node) (coded_list row.the_row.coded) prefix tree tree_prefix
