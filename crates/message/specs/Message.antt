-- What a message is, and the bytes that stand for it.
use Rattle.std.specs.Prelude.{◌≡◌, ℕ, ◌/◌, ◌%◌, ◌<◌, ◌≤◌, min, max, List, [], ◌∷◌, ◌++◌, length}
use Rattle.message.specs.declared.Atom.{Atom}
use Rattle.message.specs.declared.Atom.TheVariants as atoms
use Rattle.message.specs.declared.Kind.{Kind}
use Rattle.message.specs.declared.Kind.TheVariants.{Agent, Nonce, Text}

-- A key belongs to two agents in no order, or to one twice. The lesser or equal one is put first, so that a key has one name.
pub data Key : Type 0 where
  shared : ℕ → ℕ → Key
  deriving Discrete as key_discrete

-- A message: an agent, a nonce, a text or a key, which are the atoms; a pair of messages; or a message sealed under a key.
pub data Msg : Type 0 where
  agent : ℕ → Msg
  nonce : ℕ → Msg
  text : ℕ → Msg
  key : Key → Msg
  pair : Msg → Msg → Msg
  seal : Key → Msg → Msg
  deriving Discrete as msg_discrete

-- The message that is just an agent, a nonce or a text.
abbrev pub single : Atom → Msg
single (atoms.Agent n) = agent n
single (atoms.Nonce n) = nonce n
single (atoms.Text n) = text n

-- The atom of a kind and number.
abbrev pub atom : Kind → ℕ → Atom
atom Agent n = atoms.Agent n
atom Nonce n = atoms.Nonce n
atom Text n = atoms.Text n

-- How many there are of a kind; they are numbered from 0.
abbrev pub size : Kind → ℕ
size Agent = 256
size Nonce = 65536
size Text = 65536

-- The key of two agents, in whichever order they are given.
abbrev pub key_of : ℕ → ℕ → Key
key_of a b = shared (min a b) (max a b)

-- A number in two bytes, the high one first.
abbrev pub two_bytes : ℕ → List ℕ
two_bytes n = n / 256 ∷ n % 256 ∷ []

-- The bytes of a key: the letter K and its two agents.
abbrev pub key_bytes : Key → List ℕ
key_bytes (shared a b) = 75 ∷ a ∷ b ∷ []

-- The bytes of a message. First comes a letter: A, N, T, K, P or E; then the number, the two halves, or the key and the content.
abbrev pub wire : Msg → List ℕ
wire (agent n) = 65 ∷ n ∷ []
wire (nonce n) = 78 ∷ two_bytes n
wire (text n) = 84 ∷ two_bytes n
wire (key k) = key_bytes k
wire (pair l r) = 80 ∷ wire l ++ wire r
wire (seal k m) = 69 ∷ key_bytes k ++ wire m

abbrev pub KeyFits : Key → Type 0
KeyFits (shared a b) = (a ≤ b) × (b < size Agent)

-- Every number is one of its kind, and every key has its lesser or equal agent first.
abbrev pub Fits : Msg → Type 0
Fits (agent n) = n < size Agent
Fits (nonce n) = n < size Nonce
Fits (text n) = n < size Text
Fits (key k) = KeyFits k
Fits (pair l r) = Fits l × Fits r
Fits (seal k m) = KeyFits k × Fits m

-- The bytes are the message m: its form and nothing else, in at most 96 bytes.
pub record Reads (bytes : List ℕ) (m : Msg) : Type 0 where
  pub fits : Fits m
  pub form : wire m ≡ bytes
  pub short : length bytes ≤ 96

abbrev pub IsMessage : List ℕ → Type 0
IsMessage bytes = (m : Msg) × Reads bytes m
