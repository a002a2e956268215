-- For each kind of node, what is written from what its parts have written, and why it is declined.
use Rattle.std.proofs.Common.{◌≡◌, ℕ, List, [], ◌∷◌, ◌++◌, length, Some, None, Option, sym, refl, ap, ◌∙◌, append_assoc, arith, length-append, Bor}
use mathlib.Core.List.{append_cancel_left, tail-eq_of_cons-eq}
use Rattle.message.specs.Message as messages
use Rattle.message.specs.Message.{Fits, KeyFits, key_bytes, wire}
use Rattle.model.specs.declared.node.Field.{Field}
use Rattle.model.specs.declared.node.Node.{Node}
use Rattle.model.specs.declared.node.Node.TheVariants as node
use Rattle.model.specs.Trees.{others, prefix, terms, top, tree}
use Rattle.model.specs.Codes.{read_back}
use Rattle.instances.specs.Substitution.{Values, key_under, message}
use Rattle.instances.specs.Writing.{Declined, Put, Withheld, Written, Writes, seal_bytes}
use Rattle.instances.proofs.Parts.{of-both, of_one}
use Rattle.instances.proofs.Sizes.{key-bytes}

-- the second term under a pair, where the first has left these nodes
second-tree : (ns second : List Node) → prefix (tree ns) ++ second ≡ ns → top (others (terms ns)) ≡ tree second
second-tree ns second e = ap (λ ms. top (others (terms ms))) (sym e) ∙ ap (λ ts. top (others ts)) (read_back (tree ns) second)

-- the nodes under a pair: those of its first term, then those of its second
under-pair : (ns rest : List Node) → prefix (tree (node.Pair ∷ ns)) ++ rest ≡ node.Pair ∷ ns → prefix (tree ns) ++ (prefix (top (others (terms ns))) ++ rest) ≡ ns
under-pair ns rest e = sym (append_assoc (prefix (tree ns)) _ rest) ∙ tail-eq_of_cons-eq e

module _ (v : Values) (ns : List Node) (before : List ℕ) where
  module _ (f g : Field) (rest : List Node) (first : ns ≡ node.Key f g ∷ rest) where
    -- a key is written
    pub key_written : {after : List ℕ} → Put KeyFits key_bytes (key_under v f g) before after → Written v ns before after rest
    key_written (k, is, fits, bytes) = rw first (record { msg = messages.key k; nodes = refl; is = rw is; fits = fits; bytes = bytes })

    -- a key is declined
    pub key_declined : Withheld key_bytes (key_under v f g) before → Declined v ns before
    key_declined withheld = rw first (λ _ m _ e. let (k, is, key-is) = of_one (key_under v f g) e in rw key-is (withheld k is))

  module _ (f g : Field) (rest : List Node) (first : ns ≡ node.Seal f g ∷ rest) where
    -- a seal is declined before its content
    pub seal_front_declined : Withheld seal_bytes (key_under v f g) before → Declined v ns before
    seal_front_declined withheld =
        rw
        first
        (λ _ m _ e.
        let (k, x, is, _, seal-is) = of-both (key_under v f g) (message v (tree rest)) e in
        rw seal-is (omega (arith, withheld k is, length-append (key_bytes k) (wire x))))

    -- a seal is written if its content is, and else declined
    pub seal_writes : {front : List ℕ} (after : List ℕ) (r : Option (Bor (List Node))) → Put KeyFits seal_bytes (key_under v f g) before front → Writes v rest front after r → Writes v ns before after r
    seal_writes after None (k, is, fits, bytes) declined =
        rw
        first
        (λ left m e e'.
        let (l, x, _, x-is, seal-is) = of-both (key_under v f g) (message v (tree rest)) e' in
        rw seal-is (omega (arith, declined left x (tail-eq_of_cons-eq e) x-is, ap length bytes, length-append before (seal_bytes k), length-append (key_bytes l) (wire x), key-bytes k, key-bytes l)))
    seal_writes after (Some left) (k, is, fits, bytes) content =
        rw
        first
        (record {
          msg = messages.seal k content.msg;
          nodes = ap (λ ms. node.Seal f g ∷ ms) content.nodes;
          is = rw (is, content.is);
          fits = (fits, content.fits);
          bytes = content.bytes ∙ ap (λ x. x ++ wire content.msg) bytes ∙ append_assoc before (seal_bytes k) (wire content.msg);
        })

  module _ (rest : List Node) (first : ns ≡ node.Pair ∷ rest) (front : List ℕ) (front-is : front ≡ before ++ (80 ∷ [])) where
    -- a pair is written if both its terms are, and else declined
    pub pair_writes : {middle : List ℕ} {second : List Node} (after : List ℕ) (r : Option (Bor (List Node))) → Written v rest front middle second → Writes v second middle after r → Writes v ns before after r
    pair_writes {middle} {second} after None one declined =
        rw
        first
        (λ left m e e'.
        let (x, y, x-is, y-is, pair_is) = of-both (message v (tree rest)) (message v (top (others (terms rest)))) e' in
        let then = second-tree rest second one.nodes in
        let same : x ≡ one.msg = cc in
        let nodes : prefix (tree second) ++ left ≡ second = append_cancel_left (prefix (tree rest)) _ _ (ap (λ t. prefix (tree rest) ++ (prefix t ++ left)) (sym then) ∙ under-pair rest left e ∙ sym one.nodes) in
        rw pair_is (omega (arith, declined left y nodes (ap (message v) (sym then) ∙ y-is), ap length one.bytes, ap length front-is, length-append front (wire one.msg), length-append before (80 ∷ []), length-append (wire x) (wire y), ap (λ z. length (wire z)) same)))
    pair_writes {middle} {second} after (Some left) one two =
        let then = second-tree rest second one.nodes in
        rw
        first
        (record {
          msg = messages.pair one.msg two.msg;
          nodes = ap (λ t. node.Pair ∷ (prefix (tree rest) ++ prefix t) ++ left.now) then ∙ ap (λ ms. node.Pair ∷ ms) (append_assoc (prefix (tree rest)) (prefix (tree second)) left.now ∙ ap (λ ms. prefix (tree rest) ++ ms) two.nodes ∙ one.nodes);
          is = rw (then, one.is, two.is);
          fits = (one.fits, two.fits);
          bytes = two.bytes ∙ simp (one.bytes, front-is, append_assoc);
        })

-- what is written, or declined, where a key, a seal or a pair stands first
pub ruleset node_writes = (key_declined, key_written, seal_front_declined, seal_writes, pair_writes)
