-- Comparing node by node finds exactly the values that turn nodes into pieces.
use Rattle.std.specs.Prelude.{◌≡◌, ℕ, ◌<◌, min, max, Bool, true, false, not, ◌||◌, ◌⊎◌, ◌≢◌, List, [], ◌∷◌, Some, None, Option, ◌==◌}
use Rattle.std.proofs.Common.{sym, refl, ap, ap₂, ◌∙◌, inl, inr, ⊎_elim, arith, ne_eqb}
use Rattle.std.proofs.Math.Decide.{ℕ_discrete}
use Rattle.message.specs.declared.Atom.{Atom}
use Rattle.message.specs.declared.Atom.TheVariants.{Agent, Nonce, Text}
use Rattle.message.specs.declared.Kind.TheVariants as kind
use Rattle.message.specs.Message.{Fits, key_of, shared, single, size}
use Rattle.model.specs.declared.node.Field.{Field}
use Rattle.model.specs.declared.node.Node.{Node}
use Rattle.model.specs.declared.node.Node.TheVariants as node
use Rattle.model.specs.Sheet as model
use Rattle.instances.specs.Substitution.{Values, agent_number, both, key_under, value}
use Rattle.instances.proofs.Parts.{of-both}
use Rattle.ranks.specs.declared.piece.Piece.{Piece}
use Rattle.ranks.specs.declared.piece.Piece.TheVariants as piece
use Rattle.ranks.specs.Matching.{Stands, fits, in_order, in_some_order, may_stand, solves, stands}
use Rattle.ranks.specs.Ranks.{EachOf, free_values}
use Rattle.ranks.proofs.Settling.{Settles, Solvable, both_true, first_true, may_be_said, may_said, second_true}

-- under these values the node is the piece
abbrev pub Becomes : Values → Node → Piece → Type 0
Becomes v (node.Leaf f) (piece.Single x) = value v f ≡ Some x
Becomes v (node.Leaf f) piece.Pair = ⊥
Becomes v (node.Leaf f) (piece.Key a b) = ⊥
Becomes v (node.Leaf f) (piece.Seal a b) = ⊥
Becomes v node.Pair (piece.Single x) = ⊥
Becomes v node.Pair piece.Pair = Unit {0}
Becomes v node.Pair (piece.Key a b) = ⊥
Becomes v node.Pair (piece.Seal a b) = ⊥
Becomes v (node.Key f g) (piece.Single x) = ⊥
Becomes v (node.Key f g) piece.Pair = ⊥
Becomes v (node.Key f g) (piece.Key a b) = key_under v f g ≡ Some (key_of a b)
Becomes v (node.Key f g) (piece.Seal a b) = ⊥
Becomes v (node.Seal f g) (piece.Single x) = ⊥
Becomes v (node.Seal f g) piece.Pair = ⊥
Becomes v (node.Seal f g) (piece.Key a b) = ⊥
Becomes v (node.Seal f g) (piece.Seal a b) = key_under v f g ≡ Some (key_of a b)

-- the nodes are the pieces at the front
abbrev pub Turns : Values → List Node → List Piece → Type 0
Turns v [] ps = Unit {0}
Turns v (n ∷ ns) [] = ⊥
Turns v (n ∷ ns) (p ∷ ps) = Becomes v n p × Turns v ns ps

-- the numbers of a node are of their kind
abbrev pub PieceFits : Piece → Type 0
PieceFits (piece.Single x) = Fits (single x)
PieceFits piece.Pair = Unit {0}
PieceFits (piece.Key a b) = (a < size kind.Agent) × (b < size kind.Agent)
PieceFits (piece.Seal a b) = (a < size kind.Agent) × (b < size kind.Agent)

abbrev pub AllFit : List Piece → Type 0
AllFit [] = Unit {0}
AllFit (p ∷ ps) = PieceFits p × AllFit ps

-- ---- the owners of a key

-- they come in one order or the other
owners_are : (i j a b : ℕ) → key_of i j ≡ key_of a b → ((i ≡ a) × (j ≡ b)) ⊎ ((i ≡ b) × (j ≡ a))
owners_are i j a b e = go (ℕ_discrete i a)
  where
    lesser : min i j ≡ min a b
    lesser = cc

    greater : max i j ≡ max a b
    greater = cc

    go : Dec (i ≡ a) → ((i ≡ a) × (j ≡ b)) ⊎ ((i ≡ b) × (j ≡ a))
    go (yes s) = inl (s, omega (arith, lesser, greater))
    go (no n) = let h : i ≢ a = n in inr (omega (arith, h, lesser, greater), omega (arith, h, lesser, greater))

agent_is : (o : Option Atom) (n : ℕ) → agent_number o ≡ Some n → o ≡ Some (Agent n)
agent_is None n e = cc
agent_is (Some (Agent m)) n e = let is : m ≡ n = cc in ap (λ k. Some (Agent k)) is
agent_is (Some (Nonce m)) n e = cc
agent_is (Some (Text m)) n e = cc

-- the two fields stand for these agents
Owned : Values → Field → Field → ℕ → ℕ → Type 0
Owned v f g a b = (value v f ≡ Some (Agent a)) × (value v g ≡ Some (Agent b))

owned_key : (v : Values) (f g : Field) (a b : ℕ) → Owned v f g a b → key_under v f g ≡ Some (key_of a b)
unfolding Owned
owned_key v f g a b (p, q) = ap₂ (λ x y. both key_of (agent_number x) (agent_number y)) p q

key_turned : (a b : ℕ) → key_of b a ≡ key_of a b
key_turned a b = let p : min b a ≡ min a b = omega arith in let q : max b a ≡ max a b = omega arith in ap₂ shared p q

key_owned : (v : Values) (f g : Field) (a b : ℕ) → key_under v f g ≡ Some (key_of a b) → Owned v f g a b ⊎ Owned v f g b a
unfolding Owned
key_owned v f g a b e =
    let (i, j, p, q, is) = of-both (agent_number (value v f)) (agent_number (value v g)) e in
    let f-is = agent_is (value v f) i p in
    let g-is = agent_is (value v g) j q in
    ⊎_elim (λ s. inl (f-is ∙ ap (λ n. Some (Agent n)) s.0, g-is ∙ ap (λ n. Some (Agent n)) s.1)) (λ s. inr (f-is ∙ ap (λ n. Some (Agent n)) s.0, g-is ∙ ap (λ n. Some (Agent n)) s.1)) (owners_are i j a b (sym is))

-- ---- tests

or_first : (a b : Bool) → a ≡ true → (a || b) ≡ true
or_first a b p = ap (λ t. t || b) p

or_second : (a b : Bool) → b ≡ true → (a || b) ≡ true
or_second true b p = refl
or_second false b p = p

or_cases : (a b : Bool) → (a || b) ≡ true → (a ≡ true) ⊎ (b ≡ true)
or_cases true b e = inl refl
or_cases false b e = inr e

-- ---- from values to the comparison

module _ (free : List model.Variable) (vars : List (Option Atom)) (each : EachOf free vars) where
  module _ (on : List Stands → Bool) (goes : (more : List Stands) → Settles (free_values vars) more → on more ≡ true) (ss : List Stands) (all : Settles (free_values vars) ss) where
    order_said : (f g : Field) (a b : ℕ) → Owned (free_values vars) f g a b → in_order on free ss f g (Agent a) (Agent b) ≡ true
    unfolding Owned
    order_said f g a b (p, q) =
        both_true
        (may_stand free ss f (Agent a))
        _
        (may_said free vars each ss all f (Agent a) p)
        (both_true (may_stand free (stands f (Agent a) ∷ ss) g (Agent b)) _ (may_said free vars each (stands f (Agent a) ∷ ss) (p, all) g (Agent b) q) (goes _ (q, (p, all))))

    orders_said : (f g : Field) (a b : ℕ) → key_under (free_values vars) f g ≡ Some (key_of a b) → in_some_order on free ss f g a b ≡ true
    unfolding Owned
    orders_said f g a b e = ⊎_elim (λ o. or_first _ _ (order_said f g a b o)) (λ o. turned_round o (ℕ_discrete a b)) (key_owned (free_values vars) f g a b e)
      where
        turned_round : Owned (free_values vars) f g b a → Dec (a ≡ b) → in_some_order on free ss f g a b ≡ true
        turned_round o (yes s) = or_first _ _ (order_said f g a b (o.0 ∙ ap (λ n. Some (Agent n)) (sym s), o.1 ∙ ap (λ n. Some (Agent n)) s))
        turned_round o (no n) = or_second (in_order on free ss f g (Agent a) (Agent b)) _ (both_true (not (a == b)) _ (ap not (ne_eqb a b n)) (order_said f g b a o))

    fits_said : (n : Node) (p : Piece) → Becomes (free_values vars) n p → fits on free ss n p ≡ true
    fits_said (node.Leaf f) (piece.Single x) is = both_true _ _ (may_said free vars each ss all f x is) (goes (stands f x ∷ ss) (is, all))
    fits_said (node.Leaf f) piece.Pair is = absurd is
    fits_said (node.Leaf f) (piece.Key a b) is = absurd is
    fits_said (node.Leaf f) (piece.Seal a b) is = absurd is
    fits_said node.Pair (piece.Single x) is = absurd is
    fits_said node.Pair piece.Pair is = goes ss all
    fits_said node.Pair (piece.Key a b) is = absurd is
    fits_said node.Pair (piece.Seal a b) is = absurd is
    fits_said (node.Key f g) (piece.Single x) is = absurd is
    fits_said (node.Key f g) piece.Pair is = absurd is
    fits_said (node.Key f g) (piece.Key a b) is = orders_said f g a b is
    fits_said (node.Key f g) (piece.Seal a b) is = absurd is
    fits_said (node.Seal f g) (piece.Single x) is = absurd is
    fits_said (node.Seal f g) piece.Pair is = absurd is
    fits_said (node.Seal f g) (piece.Key a b) is = absurd is
    fits_said (node.Seal f g) (piece.Seal a b) is = orders_said f g a b is

  pub solves_said : (ns : List Node) (ps : List Piece) (ss : List Stands) → Settles (free_values vars) ss → Turns (free_values vars) ns ps → solves free ss ns ps ≡ true
  solves_said [] ps ss all t = refl
  solves_said (n ∷ ns) [] ss all t = absurd t
  solves_said (n ∷ ns) (p ∷ ps) ss all (is, t) = fits_said (λ more. solves free more ns ps) (λ more h. solves_said ns ps more h t) ss all n p is

-- ---- from the comparison to values

-- some values say what is settled, and turn the nodes into the pieces
abbrev pub Turning : List model.Variable → List Stands → List Node → List Piece → Type 0
Turning free ss ns ps = (vars : List (Option Atom)) × EachOf free vars × Settles (free_values vars) ss × Turns (free_values vars) ns ps

module _ (free : List model.Variable) where
  module _ (ns : List Node) (ps : List Piece) (on : List Stands → Bool) (goes : (more : List Stands) → on more ≡ true → Solvable free more → Turning free more ns ps) (ss : List Stands) where
    -- with the two fields as the owners in this order
    Ordered : Field → Field → ℕ → ℕ → Type 0
    Ordered f g a b = (vars : List (Option Atom)) × EachOf free vars × Settles (free_values vars) ss × Owned (free_values vars) f g a b × Turns (free_values vars) ns ps

    said_order : (f g : Field) (a b : ℕ) → a < 256 → b < 256 → in_order on free ss f g (Agent a) (Agent b) ≡ true → Solvable free ss → Ordered f g a b
    unfolding Owned Ordered
    said_order f g a b p q e s =
        let later = second_true (may_stand free ss f (Agent a)) _ e in
        let one = may_be_said free ss f (Agent a) p (first_true _ _ e) s in
        let two = may_be_said free (stands f (Agent a) ∷ ss) g (Agent b) q (first_true _ _ later) one in
        let (vars, each, (y, (x, all)), then) = goes (stands g (Agent b) ∷ stands f (Agent a) ∷ ss) (second_true (may_stand free (stands f (Agent a) ∷ ss) g (Agent b)) _ later) two in
        (vars, each, all, (x, y), then)

    said_orders : (f g : Field) (a b : ℕ) → a < 256 → b < 256 → in_some_order on free ss f g a b ≡ true → Solvable free ss
        → (vars : List (Option Atom)) × EachOf free vars × Settles (free_values vars) ss × (key_under (free_values vars) f g ≡ Some (key_of a b)) × Turns (free_values vars) ns ps
    unfolding Ordered
    said_orders f g a b p q e s =
        ⊎_elim
        (λ x. let (vars, each, all, o, then) = said_order f g a b p q x s in (vars, each, all, owned_key (free_values vars) f g a b o, then))
        (λ y.
        let (vars, each, all, o, then) = said_order f g b a q p (second_true (not (a == b)) _ y) s in
        (vars, each, all, owned_key (free_values vars) f g b a o ∙ ap Some (key_turned a b), then))
        (or_cases (in_order on free ss f g (Agent a) (Agent b)) _ e)

    said_fits : (n : Node) (p : Piece) → PieceFits p → fits on free ss n p ≡ true → Solvable free ss
        → (vars : List (Option Atom)) × EachOf free vars × Settles (free_values vars) ss × Becomes (free_values vars) n p × Turns (free_values vars) ns ps
    said_fits (node.Leaf f) (piece.Single x) h e s = let (vars, each, (is, all), then) = goes (stands f x ∷ ss) (second_true (may_stand free ss f x) _ e) (may_be_said free ss f x h (first_true _ _ e) s) in (vars, each, all, is, then)
    said_fits (node.Leaf f) piece.Pair h e s = let z : false ≡ true = e in cc
    said_fits (node.Leaf f) (piece.Key a b) h e s = let z : false ≡ true = e in cc
    said_fits (node.Leaf f) (piece.Seal a b) h e s = let z : false ≡ true = e in cc
    said_fits node.Pair (piece.Single x) h e s = let z : false ≡ true = e in cc
    said_fits node.Pair piece.Pair h e s = let (vars, each, all, then) = goes ss e s in (vars, each, all, tt, then)
    said_fits node.Pair (piece.Key a b) h e s = let z : false ≡ true = e in cc
    said_fits node.Pair (piece.Seal a b) h e s = let z : false ≡ true = e in cc
    said_fits (node.Key f g) (piece.Single x) h e s = let z : false ≡ true = e in cc
    said_fits (node.Key f g) piece.Pair h e s = let z : false ≡ true = e in cc
    said_fits (node.Key f g) (piece.Key a b) h e s = said_orders f g a b h.0 h.1 e s
    said_fits (node.Key f g) (piece.Seal a b) h e s = let z : false ≡ true = e in cc
    said_fits (node.Seal f g) (piece.Single x) h e s = let z : false ≡ true = e in cc
    said_fits (node.Seal f g) piece.Pair h e s = let z : false ≡ true = e in cc
    said_fits (node.Seal f g) (piece.Key a b) h e s = let z : false ≡ true = e in cc
    said_fits (node.Seal f g) (piece.Seal a b) h e s = said_orders f g a b h.0 h.1 e s

  pub said_solves : (ns : List Node) (ps : List Piece) → AllFit ps → (ss : List Stands) → solves free ss ns ps ≡ true → Solvable free ss → Turning free ss ns ps
  said_solves [] ps h ss e (vars, each, all) = (vars, each, all, tt)
  said_solves (n ∷ ns) [] h ss e s = let z : false ≡ true = e in cc
  said_solves (n ∷ ns) (p ∷ ps) (here, h) ss e s =
      let (vars, each, all, is, then) = said_fits ns ps (λ more. solves free more ns ps) (λ more d r. said_solves ns ps h more d r) ss n p here e s in
      (vars, each, all, (is, then))
