-- Comparing a line's term with a message, node by node.
use Rattle.std.specs.Prelude.{ℕ, Bool, true, false, not, ◌&&◌, ◌||◌, List, [], ◌∷◌, length, Some, None, Option, ◌==◌, nat_lt}
use Rattle.std.specs.List.{list_all, slice_get, zip}
use Rattle.std.specs.Str.{bytes_eq}
use Rattle.message.specs.declared.Atom.{Atom}
use Rattle.message.specs.declared.Atom.TheVariants.{Agent, Nonce, Text}
use Rattle.message.specs.declared.Kind.{Kind}
use Rattle.message.specs.declared.Kind.TheVariants as kind
use Rattle.message.specs.Message.{atom, size}
use Rattle.model.specs.declared.node.Field.{Field}
use Rattle.model.specs.declared.node.Field.TheVariants.{Player, Variable, Named}
use Rattle.model.specs.declared.node.Node.{Node}
use Rattle.model.specs.declared.node.Node.TheVariants as node
use Rattle.model.specs.Sheet as model
use Rattle.instances.specs.Substitution.{Values, value}
use Rattle.ranks.specs.declared.matching.Settled.{Settled}
use Rattle.ranks.specs.declared.matching.Settled.TheVariants.{Nothing, Also'}
use Rattle.ranks.specs.declared.piece.Piece.{Piece}
use Rattle.ranks.specs.declared.piece.Piece.TheVariants as piece
use Rattle.ranks.specs.Ranks.{kind_of}

-- A field, and the atom that it stands for.
pub record Stands : Type 0 where
  pub field : Field
  pub atom : Atom

abbrev pub stands : Field → Atom → Stands
stands f x = record { field = f; atom = x }

abbrev pub settled_of : Settled → List Stands
settled_of Nothing = []
settled_of (Also' f x p before) = stands f x ∷ settled_of before

-- ---- one field

abbrev pub same : Atom → Atom → Bool
same (Agent m) (Agent n) = m == n
same (Agent m) (Nonce n) = false
same (Agent m) (Text n) = false
same (Nonce m) (Agent n) = false
same (Nonce m) (Nonce n) = m == n
same (Nonce m) (Text n) = false
same (Text m) (Agent n) = false
same (Text m) (Nonce n) = false
same (Text m) (Text n) = m == n

-- the kind has an atom of this number, and it is this one
abbrev pub is_atom : Kind → ℕ → Atom → Bool
is_atom k n x = nat_lt n (size k) && same (atom k n) x

abbrev pub is_kind : Kind → Atom → Bool
is_kind kind.Agent (Agent m) = true
is_kind kind.Agent (Nonce m) = false
is_kind kind.Agent (Text m) = false
is_kind kind.Nonce (Agent m) = false
is_kind kind.Nonce (Nonce m) = true
is_kind kind.Nonce (Text m) = false
is_kind kind.Text (Agent m) = false
is_kind kind.Text (Nonce m) = false
is_kind kind.Text (Text m) = true

abbrev pub is_variable : Field → ℕ → Bool
is_variable Player i = false
is_variable (Variable j) i = j == i
is_variable (Named k n) i = false

abbrev pub may_be : Option model.Variable → Atom → Bool
may_be None x = false
may_be (Some v) x = is_kind (kind_of v.sort) x

-- a free variable of this number may be the atom
abbrev pub kind_of_free : List model.Variable → ℕ → Atom → Bool
kind_of_free free i x = may_be (slice_get free i) x

-- the variable stands for nothing but this atom so far
abbrev pub allows : List Stands → ℕ → Atom → Bool
allows [] i x = true
allows (s ∷ ss) i x = (not (is_variable s.field i) || same s.atom x) && allows ss i x

-- the field may stand for the atom, as far as fields are settled
abbrev pub may_stand : List model.Variable → List Stands → Field → Atom → Bool
may_stand free settled Player x = false
may_stand free settled (Variable i) x = kind_of_free free i x && allows settled i x
may_stand free settled (Named k n) x = is_atom k n x

-- ---- nodes and pieces

-- The two fields stand for these, and then it goes on.
abbrev pub in_order : (List Stands → Bool) → List model.Variable → List Stands → Field → Field → Atom → Atom → Bool
in_order on free settled f g x y = may_stand free settled f x && (may_stand free (stands f x ∷ settled) g y && on (stands g y ∷ stands f x ∷ settled))

-- The two fields are the owners of a key in one order or the other, and then it goes on.
abbrev pub in_some_order : (List Stands → Bool) → List model.Variable → List Stands → Field → Field → ℕ → ℕ → Bool
in_some_order on free settled f g a b = in_order on free settled f g (Agent a) (Agent b) || (not (a == b) && in_order on free settled f g (Agent b) (Agent a))

-- The node may be the piece, and then it goes on.
abbrev pub fits : (List Stands → Bool) → List model.Variable → List Stands → Node → Piece → Bool
fits on free settled (node.Leaf f) (piece.Single x) = may_stand free settled f x && on (stands f x ∷ settled)
fits on free settled (node.Leaf f) piece.Pair = false
fits on free settled (node.Leaf f) (piece.Key a b) = false
fits on free settled (node.Leaf f) (piece.Seal a b) = false
fits on free settled node.Pair (piece.Single x) = false
fits on free settled node.Pair piece.Pair = on settled
fits on free settled node.Pair (piece.Key a b) = false
fits on free settled node.Pair (piece.Seal a b) = false
fits on free settled (node.Key f g) (piece.Single x) = false
fits on free settled (node.Key f g) piece.Pair = false
fits on free settled (node.Key f g) (piece.Key a b) = in_some_order on free settled f g a b
fits on free settled (node.Key f g) (piece.Seal a b) = false
fits on free settled (node.Seal f g) (piece.Single x) = false
fits on free settled (node.Seal f g) piece.Pair = false
fits on free settled (node.Seal f g) (piece.Key a b) = false
fits on free settled (node.Seal f g) (piece.Seal a b) = in_some_order on free settled f g a b

-- Some values of the free variables, under which the settled fields stand for what they do, turn the nodes into the pieces at the front.
abbrev pub solves : List model.Variable → List Stands → List Node → List Piece → Bool
solves free settled [] ps = true
solves free settled (n ∷ ns) [] = false
solves free settled (n ∷ ns) (p ∷ ps) = fits (λ more. solves free more ns ps) free settled n p

-- ---- events

-- The fields, of which only names stand for something, are these atoms.
abbrev pub are_named : List Field → List Atom → Bool
are_named fs xs = length fs == length xs && list_all (λ p. may_stand [] [] p.0 p.1) (zip fs xs)

-- A line's signal is the event of this word and these atoms.
abbrev pub is_event : model.Signal → List ℕ → List Atom → Bool
is_event s word atoms = bytes_eq s.word word && are_named s.fields atoms

-- The field, which is a name, is what another field stands for.
abbrev pub is_name_of : Field → Option Atom → Bool
is_name_of f None = false
is_name_of f (Some x) = may_stand [] [] f x

abbrev pub are_names_under : Values → List Field → List Field → Bool
are_names_under v fs gs = length fs == length gs && list_all (λ p. is_name_of p.0 (value v p.1)) (zip fs gs)

-- A line's signal is the event that another signal is under these values.
abbrev pub is_event_under : Values → model.Signal → model.Signal → Bool
is_event_under v line s = bytes_eq line.word s.word && are_names_under v line.fields s.fields
