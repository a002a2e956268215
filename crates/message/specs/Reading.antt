-- What the reading calls answer: a message at the front of bytes, its parts, its words.
use Rattle.std.specs.Prelude.{◌≡◌, ℕ, List, ◌++◌, Some, None, Ok, Err, Option, Result, ◌≢◌}
use Rattle.std.specs.Borrow.{Bor}
use Rattle.message.specs.declared.NotMessage.{NotMessage}
use Rattle.message.specs.declared.read.Front.{Front}
use Rattle.message.specs.declared.read.Parts.{Parts}
use Rattle.message.specs.declared.read.Parts.TheVariants.{Agent, Nonce, Text, Key, Pair, Seal}
use Rattle.message.specs.Message.{shared, Msg, agent, nonce, text, key, pair, seal, key_bytes, wire, Fits, Reads, IsMessage}
use Rattle.message.specs.Message as tree

-- The bytes begin with the form of a tree, however long, and rest comes after it.
pub record Begins (bytes rest : List ℕ) : Type 0 where
  pub message : Msg
  pub fits : Fits message
  pub splits : wire message ++ rest ≡ bytes

-- What comes after the tree's form at the front; none where no form stands there.
abbrev pub Leaves : List ℕ → Option (Bor (List ℕ)) → Type 0
Leaves bytes None = (rest : List ℕ) → Begins bytes rest → ⊥
Leaves bytes (Some rest) = Begins bytes rest.now

-- The message at the front of the bytes and what comes after it, or that no message stands there.
abbrev pub Fronts : List ℕ → Result Front NotMessage → Type 0
Fronts bytes (Ok f) = IsMessage f.message.now × (f.message.now ++ f.rest.now ≡ bytes)
Fronts bytes (Err e) = (front rest : List ℕ) → IsMessage front → front ++ rest ≢ bytes

-- The two are forms of one message.
abbrev pub Same : List ℕ → List ℕ → Type 0
Same a b = (m : Msg) × Reads a m × Reads b m

-- The message one level down: an atom's numbers; the bytes of a pair's halves, or of a seal's key and content.
abbrev pub Shows : Parts → Msg → Type 0
Shows (Agent n) m = m ≡ agent n
Shows (Nonce n) m = m ≡ nonce n
Shows (Text n) m = m ≡ text n
Shows (Key a b) m = m ≡ key (shared a b)
Shows (Pair first second) m = (l : Msg) × (r : Msg) × (m ≡ pair l r) × (wire l ≡ first.now) × (wire r ≡ second.now)
Shows (Seal k content) m = (s : tree.Key) × (c : Msg) × (m ≡ seal s c) × (key_bytes s ≡ k.now) × (wire c ≡ content.now)

-- The parts of the message that the bytes are, or that they are none.
abbrev pub Splits : List ℕ → Result Parts NotMessage → Type 0
Splits bytes (Ok p) = (m : Msg) × Reads bytes m × Shows p m
Splits bytes (Err e) = IsMessage bytes → ⊥
