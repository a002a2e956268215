-- What the enemy can make from a set of messages: the inference rules.
use Rattle.message.specs.Message.{Key, Msg, key, pair, seal}

-- From a set the enemy generates its members, pairs of what it generates, both halves of a pair, a seal from its key and content,
-- a seal's content from the seal and its key, and nothing else.
pub data Generates (S : Msg → Type 0) : Msg → Type 0 where
  known : {m : Msg} → S m → Generates S m
  paired : {l r : Msg} → Generates S l → Generates S r → Generates S (pair l r)
  left : {l r : Msg} → Generates S (pair l r) → Generates S l
  right : {l r : Msg} → Generates S (pair l r) → Generates S r
  sealed : {k : Key} {m : Msg} → Generates S (key k) → Generates S m → Generates S (seal k m)
  opened : {k : Key} {m : Msg} → Generates S (seal k m) → Generates S (key k) → Generates S m

-- Built from the members of a set by pairing and sealing alone: nothing is taken apart.
pub data Builds (S : Msg → Type 0) : Msg → Type 0 where
  member : {m : Msg} → S m → Builds S m
  pairing : {l r : Msg} → Builds S l → Builds S r → Builds S (pair l r)
  sealing : {k : Key} {m : Msg} → Builds S (key k) → Builds S m → Builds S (seal k m)

-- A set that taking apart does not leave: it has both halves of each of its pairs, and the content of each of its seals whose key it has.
pub record Closed (S : Msg → Type 0) : Type 0 where
  pub halves : (l r : Msg) → S (pair l r) → S l × S r
  pub content : (k : Key) (m : Msg) → S (seal k m) → S (key k) → S m
