-- The comparison of a term with a message finds exactly the values that turn one into the other.
use Rattle.std.specs.Prelude.{◌≡◌, ℕ, ◌≤◌, min, max, true, List, [], ◌∷◌, ◌++◌, Some, Decides}
use Rattle.std.specs.Option.{option_map}
use Rattle.std.proofs.Common.{sym, refl, ap, ap₂, subst, subst₂, ◌∙◌, arith, append-nil, append_assoc}
use Rattle.message.specs.declared.Atom.{Atom}
use Rattle.message.specs.declared.Atom.TheVariants.{Agent, Nonce, Text}
use Rattle.message.specs.Message as messages
use Rattle.message.specs.Message.{Fits, Key, Msg, agent, nonce, text, key_of, shared, single}
use Rattle.model.specs.declared.node.Field.{Field}
use Rattle.model.specs.declared.node.Node.{Node}
use Rattle.model.specs.declared.node.Node.TheVariants as node
use Rattle.model.specs.Sheet as model
use Rattle.model.specs.Trees.{Term, leaf, pair, key, seal, prefix}
use Rattle.instances.specs.Substitution.{Values, both, key_under, message, value}
use Rattle.instances.proofs.Parts.{of-both, of_one}
use Rattle.ranks.specs.declared.piece.Piece.{Piece}
use Rattle.ranks.specs.declared.piece.Piece.TheVariants as piece
use Rattle.ranks.specs.Matching.{solves}
use Rattle.ranks.specs.Pieces.{pieces}
use Rattle.ranks.specs.Ranks.{Gives, free_values}
use Rattle.ranks.proofs.Settling.{any_values}
use Rattle.ranks.proofs.Turning.{AllFit, Turns, said_solves, solves_said}

in_their_order : (a b : ℕ) → a ≤ b → key_of a b ≡ shared a b
in_their_order a b h = let p : min a b ≡ a = omega arith in let q : max a b ≡ b = omega arith in ap₂ shared p q

-- the nodes of a pair's terms, and the pieces of its halves, apart and together
parted : (v : Values) (l r : Term) (x y : Msg) (ns : List Node) (ps : List Piece)
    → Turns v ((prefix l ++ prefix r) ++ ns) ((pieces x ++ pieces y) ++ ps) → Turns v (prefix l ++ (prefix r ++ ns)) (pieces x ++ (pieces y ++ ps))
parted v l r x y ns ps h = subst₂ (Turns v) (append_assoc (prefix l) (prefix r) ns) (append_assoc (pieces x) (pieces y) ps) h

together : (v : Values) (l r : Term) (x y : Msg) (ns : List Node) (ps : List Piece)
    → Turns v (prefix l ++ (prefix r ++ ns)) (pieces x ++ (pieces y ++ ps)) → Turns v ((prefix l ++ prefix r) ++ ns) ((pieces x ++ pieces y) ++ ps)
together v l r x y ns ps h = subst₂ (Turns v) (sym (append_assoc (prefix l) (prefix r) ns)) (sym (append_assoc (pieces x) (pieces y) ps)) h

-- nodes that are a message's pieces are a term that is the message
turned : (v : Values) (t : Term) (m : Msg) → Fits m → (ns : List Node) (ps : List Piece) → Turns v (prefix t ++ ns) (pieces m ++ ps) → (message v t ≡ Some m) × Turns v ns ps
turned v (leaf f) (agent n) h ns ps (is, then) = (ap (option_map single) is, then)
turned v (leaf f) (nonce n) h ns ps (is, then) = (ap (option_map single) is, then)
turned v (leaf f) (text n) h ns ps (is, then) = (ap (option_map single) is, then)
turned v (leaf f) (messages.key (shared a b)) h ns ps (is, then) = absurd is
turned v (leaf f) (messages.pair x y) h ns ps (is, then) = absurd is
turned v (leaf f) (messages.seal (shared a b) x) h ns ps (is, then) = absurd is
turned v (pair l r) (agent n) h ns ps (is, then) = absurd is
turned v (pair l r) (nonce n) h ns ps (is, then) = absurd is
turned v (pair l r) (text n) h ns ps (is, then) = absurd is
turned v (pair l r) (messages.key (shared a b)) h ns ps (is, then) = absurd is
turned v (pair l r) (messages.pair x y) h ns ps (is, then) =
    let (first, after) = turned v l x h.0 (prefix r ++ ns) (pieces y ++ ps) (parted v l r x y ns ps then) in
    let (second, rest) = turned v r y h.1 ns ps after in
    (ap₂ (both messages.pair) first second, rest)
turned v (pair l r) (messages.seal (shared a b) x) h ns ps (is, then) = absurd is
turned v (key f g) (agent n) h ns ps (is, then) = absurd is
turned v (key f g) (nonce n) h ns ps (is, then) = absurd is
turned v (key f g) (text n) h ns ps (is, then) = absurd is
turned v (key f g) (messages.key (shared a b)) h ns ps (is, then) = (ap (option_map messages.key) (is ∙ ap Some (in_their_order a b h.0)), then)
turned v (key f g) (messages.pair x y) h ns ps (is, then) = absurd is
turned v (key f g) (messages.seal (shared a b) x) h ns ps (is, then) = absurd is
turned v (seal f g t) (agent n) h ns ps (is, then) = absurd is
turned v (seal f g t) (nonce n) h ns ps (is, then) = absurd is
turned v (seal f g t) (text n) h ns ps (is, then) = absurd is
turned v (seal f g t) (messages.key (shared a b)) h ns ps (is, then) = absurd is
turned v (seal f g t) (messages.pair x y) h ns ps (is, then) = absurd is
turned v (seal f g t) (messages.seal (shared a b) x) h ns ps (is, then) =
    let (content, rest) = turned v t x h.1 ns ps then in
    (ap₂ (both messages.seal) (is ∙ ap Some (in_their_order a b h.0.0)) content, rest)

pieces_single : (x : Atom) → pieces (single x) ≡ piece.Single x ∷ []
pieces_single (Agent n) = refl
pieces_single (Nonce n) = refl
pieces_single (Text n) = refl

key_turns : (v : Values) (f g : Field) (k : Key) → key_under v f g ≡ Some k → Fits (messages.key k) → (ns : List Node) (ps : List Piece) → Turns v ns ps
    → Turns v (node.Key f g ∷ ns) (pieces (messages.key k) ++ ps)
key_turns v f g (shared a b) e h ns ps then = (e ∙ ap Some (sym (in_their_order a b h.0)), then)

seal_turns : (v : Values) (f g : Field) (k : Key) (x : Msg) → key_under v f g ≡ Some k → Fits (messages.key k) → (ns : List Node) (ps : List Piece) → Turns v ns (pieces x ++ ps)
    → Turns v (node.Seal f g ∷ ns) (pieces (messages.seal k x) ++ ps)
seal_turns v f g (shared a b) x e h ns ps then = (e ∙ ap Some (sym (in_their_order a b h.0)), then)

-- a term that is a message has its pieces as nodes
turns : (v : Values) (t : Term) (m : Msg) → message v t ≡ Some m → Fits m → (ns : List Node) (ps : List Piece) → Turns v ns ps → Turns v (prefix t ++ ns) (pieces m ++ ps)
turns v (leaf f) m e h ns ps then =
    let (x, at, is) = of_one (value v f) e in
    subst (λ z. Turns v (node.Leaf f ∷ ns) (z ++ ps)) (sym (ap pieces is ∙ pieces_single x)) (at, then)
turns v (key f g) m e h ns ps then =
    let (k, at, is) = of_one (key_under v f g) e in
    subst (λ z. Turns v (node.Key f g ∷ ns) (pieces z ++ ps)) (sym is) (key_turns v f g k at (subst Fits is h) ns ps then)
turns v (pair l r) m e h ns ps then =
    let (x, y, l-is, r-is, is) = of-both (message v l) (message v r) e in
    let fits : Fits x × Fits y = subst Fits is h in
    let rest = turns v l x l-is fits.0 (prefix r ++ ns) (pieces y ++ ps) (turns v r y r-is fits.1 ns ps then) in
    subst (λ z. Turns v (node.Pair ∷ (prefix l ++ prefix r) ++ ns) (pieces z ++ ps)) (sym is) (tt, together v l r x y ns ps rest)
turns v (seal f g t) m e h ns ps then =
    let (k, x, k-is, x-is, is) = of-both (key_under v f g) (message v t) e in
    let fits : Fits (messages.key k) × Fits x = subst Fits is h in
    subst (λ z. Turns v (node.Seal f g ∷ prefix t ++ ns) (pieces z ++ ps)) (sym is) (seal_turns v f g k x k-is fits.0 (prefix t ++ ns) ps (turns v t x x-is fits.1 ns ps then))

-- ---- the comparison decides

-- The nodes of a term solve against the pieces of a message at the front exactly where some values turn the term into the message.
pub solves_gives : (free : List model.Variable) (t : Term) (m : Msg) (rest : List Piece) → Fits m → AllFit (pieces m ++ rest)
    → Decides (solves free [] (prefix t) (pieces m ++ rest)) (Gives free t m)
solves_gives free t m rest h all = (found, given)
  where
    all_nodes : prefix t ++ [] ≡ prefix t
    all_nodes = append-nil (prefix t)

    found : solves free [] (prefix t) (pieces m ++ rest) ≡ true → Gives free t m
    found e =
        let some = any_values free in
        let (vars, each, all-settled, is) = said_solves free (prefix t) (pieces m ++ rest) all [] e (some.0, some.1, tt) in
        (vars, each, (turned (free_values vars) t m h [] rest (subst (λ ns. Turns (free_values vars) ns (pieces m ++ rest)) (sym all_nodes) is)).0)

    given : Gives free t m → solves free [] (prefix t) (pieces m ++ rest) ≡ true
    given (vars, each, is) =
        solves_said free vars each (prefix t) (pieces m ++ rest) [] tt (subst (λ ns. Turns (free_values vars) ns (pieces m ++ rest)) all_nodes (turns (free_values vars) t m is h [] rest tt))
