-- Comparing the term that a step receives with a message, node by node.
use Rattle.std.specs.Prelude.{◌≡◌, ℕ, Bool, true, false, cond, List, [], ◌∷◌, map, Some, None, Option, ◌==◌, slice_set}
use Rattle.std.specs.List.{slice_get}
use Rattle.message.specs.declared.Atom.{Atom}
use Rattle.message.specs.declared.Atom.TheVariants.{Agent}
use Rattle.model.specs.declared.node.Field.{Field}
use Rattle.model.specs.declared.node.Field.TheVariants.{Player, Variable, Named}
use Rattle.model.specs.declared.node.Node.{Node}
use Rattle.model.specs.declared.node.Node.TheVariants as node
use Rattle.model.specs.declared.node.Sort.{Sort}
use Rattle.model.specs.declared.node.Sort.TheVariants.{Fresh, Plain}
use Rattle.model.specs.Sheet as model
use Rattle.model.specs.Stored.{variable_of}
use Rattle.ranks.specs.declared.piece.Piece.{Piece}
use Rattle.ranks.specs.declared.piece.Piece.TheVariants as piece
use Rattle.board.specs.declared.matching.Scope.{Scope}
use Rattle.ranks.specs.Matching.{is_atom, is_kind, same}

abbrev pub variables_of : Scope → List model.Variable
variables_of s = map variable_of s.variables.now

-- What the variables stand for is kept, if the test passes.
abbrev pub kept : Bool → List (Option Atom) → Option (List (Option Atom))
kept b os = cond b (Some os) None

-- A variable of this sort may be bound to the atom: the session makes its fresh ones itself.
abbrev pub is_open : Sort → Atom → Bool
is_open Fresh x = false
is_open (Plain k) x = is_kind k x

abbrev pub is_open_variable : Option model.Variable → Atom → Bool
is_open_variable None x = false
is_open_variable (Some v) x = is_open v.sort x

abbrev pub may_be_bound : List model.Variable → ℕ → Atom → Bool
may_be_bound vs i x = is_open_variable (slice_get vs i) x

-- The other owner of a key that has this one, or the same for a key of one agent twice.
abbrev pub other_owner : ℕ → ℕ → ℕ → Option ℕ
other_owner me a b = cond (a == me) (Some b) (cond (b == me) (Some a) None)

abbrev pub is_player : Field → Bool
is_player Player = true
is_player (Variable i) = false
is_player (Named k n) = false

module _ (me : ℕ) (vs : List model.Variable) where
  abbrev pub bound_slot : List (Option Atom) → ℕ → Atom → Option (Option Atom) → Option (List (Option Atom))
  bound_slot os i x None = None
  bound_slot os i x (Some None) = cond (may_be_bound vs i x) (Some (slice_set os i (Some x))) None
  bound_slot os i x (Some (Some y)) = kept (same y x) os

  -- A variable that is unbound is bound to the atom; one that is bound stands for it already.
  abbrev pub bound_variable : List (Option Atom) → ℕ → Atom → Option (List (Option Atom))
  bound_variable os i x = bound_slot os i x (slice_get os i)

  -- The field stands for the atom.
  abbrev pub bound : List (Option Atom) → Field → Atom → Option (List (Option Atom))
  bound os Player x = kept (same x (Agent me)) os
  bound os (Variable i) x = bound_variable os i x
  bound os (Named k n) x = kept (is_atom k n x) os

  abbrev pub bound_owner : List (Option Atom) → Field → Option ℕ → Option (List (Option Atom))
  bound_owner os f None = None
  bound_owner os f (Some a) = bound os f (Agent a)

  -- The fields stand for the owners of a key, where the first is the agent that plays the role.
  abbrev pub bound_key : List (Option Atom) → Field → Field → ℕ → ℕ → Option (List (Option Atom))
  bound_key os f g a b = cond (is_player f) (bound_owner os g (other_owner me a b)) None

  abbrev pub bound_node : List (Option Atom) → Node → Piece → Option (List (Option Atom))
  bound_node os (node.Leaf f) (piece.Single x) = bound os f x
  bound_node os (node.Leaf f) piece.Pair = None
  bound_node os (node.Leaf f) (piece.Key a b) = None
  bound_node os (node.Leaf f) (piece.Seal a b) = None
  bound_node os node.Pair (piece.Single x) = None
  bound_node os node.Pair piece.Pair = Some os
  bound_node os node.Pair (piece.Key a b) = None
  bound_node os node.Pair (piece.Seal a b) = None
  bound_node os (node.Key f g) (piece.Single x) = None
  bound_node os (node.Key f g) piece.Pair = None
  bound_node os (node.Key f g) (piece.Key a b) = bound_key os f g a b
  bound_node os (node.Key f g) (piece.Seal a b) = None
  bound_node os (node.Seal f g) (piece.Single x) = None
  bound_node os (node.Seal f g) piece.Pair = None
  bound_node os (node.Seal f g) (piece.Key a b) = None
  bound_node os (node.Seal f g) (piece.Seal a b) = bound_key os f g a b

  abbrev pub then : Option (List (Option Atom)) → (List (Option Atom) → Option (List (Option Atom))) → Option (List (Option Atom))
  then None on = None
  then (Some os) on = on os

  -- The nodes are the pieces, one by one.
  abbrev pub matched : List (Option Atom) → List Node → List Piece → Option (List (Option Atom))
  matched os [] [] = Some os
  matched os [] (p ∷ ps) = None
  matched os (n ∷ ns) [] = None
  matched os (n ∷ ns) (p ∷ ps) = then (bound_node os n p) (λ more. matched more ns ps)

-- They are answered, and what the variables stand for is left.
abbrev pub Becomes : Option (List (Option Atom)) → List (Option Atom) → Option (Unit {0}) → Type 0
Becomes wanted new None = wanted ≡ None
Becomes wanted new (Some done) = wanted ≡ Some new
