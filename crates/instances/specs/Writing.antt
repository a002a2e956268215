-- What the code's values stand for, and what substitution answers.
use Rattle.std.specs.Prelude.{◌≡◌, ℕ, ◌+◌, ◌<◌, List, ◌∷◌, ◌++◌, length, Some, None, Option}
use Rattle.std.specs.Borrow.{Bor}
use Rattle.message.specs.Message.{Fits, Key, Msg, Reads, key_bytes, key_of, wire}
use Rattle.model.specs.declared.node.Node.{Node}
use Rattle.model.specs.Trees.{Term, prefix, tree}
use Rattle.instances.specs.declared.Values.{Values}
use Rattle.instances.specs.Substitution as substitution
use Rattle.instances.specs.Substitution.{message}

-- the code's values as the model has them
abbrev pub values_of : Values → substitution.Values
values_of v = record { player = v.player; variables = v.variables.now }

-- The bytes of the message that the term is; none where it is none. It never passes 96 bytes.
abbrev pub Substitutes : substitution.Values → Term → Option (List ℕ) → Type 0
Substitutes v t None = message v t ≡ None
Substitutes v t (Some bytes) = (m : Msg) × (message v t ≡ Some m) × Reads bytes m

-- the bytes of a seal under a key as far as its content
abbrev pub seal_bytes : Key → List ℕ
seal_bytes k = 69 ∷ key_bytes k

-- The two agents, in either order, whose key is wanted; none where none is.
abbrev pub Owners : Option Key → Option (ℕ × ℕ) → Type 0
Owners wanted None = wanted ≡ None
Owners wanted (Some owners) = wanted ≡ Some (key_of owners.0 owners.1)

-- The bytes of what is wanted, which is in range, come behind those before.
abbrev pub Put : {X : Type 0} → (X → Type 0) → (X → List ℕ) → Option X → List ℕ → List ℕ → Type 0
Put {X} fits bytes wanted before after = (x : X) × (wanted ≡ Some x) × fits x × (after ≡ before ++ bytes x)

-- Nothing is wanted, or 96 bytes would be passed.
abbrev pub Withheld : {X : Type 0} → (X → List ℕ) → Option X → List ℕ → Type 0
Withheld {X} bytes wanted before = (x : X) → wanted ≡ Some x → 96 < length before + length (bytes x)

-- One or the other is answered.
abbrev pub Puts : {X : Type 0} → (X → Type 0) → (X → List ℕ) → Option X → List ℕ → List ℕ → Option (Unit {0}) → Type 0
Puts fits bytes wanted before after None = Withheld bytes wanted before
Puts fits bytes wanted before after (Some done) = Put fits bytes wanted before after

-- The first of the terms that the nodes are is a message in range, whose bytes come behind those before, and the rest of the nodes is left.
pub record Written (v : substitution.Values) (ns : List Node) (before after : List ℕ) (rest : List Node) : Type 0 where
  pub msg : Msg
  pub nodes : prefix (tree ns) ++ rest ≡ ns
  pub is : message v (tree ns) ≡ Some msg
  pub fits : Fits msg
  pub bytes : after ≡ before ++ wire msg

-- No term stands there, it is no message, or 96 bytes would be passed.
abbrev pub Declined : substitution.Values → List Node → List ℕ → Type 0
Declined v ns before = (rest : List Node) (m : Msg) → prefix (tree ns) ++ rest ≡ ns → message v (tree ns) ≡ Some m → 96 < length before + length (wire m)

-- The nodes that are left are answered, or none.
abbrev pub Writes : substitution.Values → List Node → List ℕ → List ℕ → Option (Bor (List Node)) → Type 0
Writes v ns before after None = Declined v ns before
Writes v ns before after (Some rest) = Written v ns before after rest.now
