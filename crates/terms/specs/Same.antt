-- When two atoms, and two signals, are the same.
use Rattle.std.specs.Prelude.{Bool, true, false, ◌&&◌, ◌||◌, List, [], ◌∷◌, ◌==◌}
use Rattle.std.specs.Str.{bytes_eq}
use Rattle.message.specs.declared.Kind.{Kind}
use Rattle.message.specs.declared.Kind.TheVariants as kind
use Rattle.model.specs.declared.node.Field.{Field}
use Rattle.model.specs.declared.node.Field.TheVariants.{Player, Variable, Named}
use Rattle.model.specs.declared.node.Node.{Node}
use Rattle.model.specs.declared.node.Node.TheVariants as node
use Rattle.model.specs.Sheet.{Signal}

abbrev pub same_kind : Kind → Kind → Bool
same_kind kind.Agent kind.Agent = true
same_kind kind.Agent kind.Nonce = false
same_kind kind.Agent kind.Text = false
same_kind kind.Nonce kind.Agent = false
same_kind kind.Nonce kind.Nonce = true
same_kind kind.Nonce kind.Text = false
same_kind kind.Text kind.Agent = false
same_kind kind.Text kind.Nonce = false
same_kind kind.Text kind.Text = true

abbrev pub same_field : Field → Field → Bool
same_field Player Player = true
same_field Player (Variable j) = false
same_field Player (Named k n) = false
same_field (Variable i) Player = false
same_field (Variable i) (Variable j) = i == j
same_field (Variable i) (Named k n) = false
same_field (Named k m) Player = false
same_field (Named k m) (Variable j) = false
same_field (Named k m) (Named l n) = same_kind k l && m == n

abbrev pub same_fields : List Field → List Field → Bool
same_fields [] [] = true
same_fields [] (g ∷ gs) = false
same_fields (f ∷ fs) [] = false
same_fields (f ∷ fs) (g ∷ gs) = same_field f g && same_fields fs gs

-- the same word and the same atoms in order
abbrev pub same_signal : Signal → Signal → Bool
same_signal s t = bytes_eq s.word t.word && same_fields s.fields t.fields

-- the same nonce or text, or the key of the same agents in either order
abbrev pub same_atom : Node → Node → Bool
same_atom (node.Leaf f) (node.Leaf g) = same_field f g
same_atom (node.Leaf f) node.Pair = false
same_atom (node.Leaf f) (node.Key a b) = false
same_atom (node.Leaf f) (node.Seal a b) = false
same_atom node.Pair y = false
same_atom (node.Key f g) (node.Leaf h) = false
same_atom (node.Key f g) node.Pair = false
same_atom (node.Key f g) (node.Key a b) = (same_field f a && same_field g b) || (same_field f b && same_field g a)
same_atom (node.Key f g) (node.Seal a b) = false
same_atom (node.Seal f g) y = false
