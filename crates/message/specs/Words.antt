-- A message in words: prefix order, decimal numbers, single spaces.
use Rattle.std.specs.Prelude.{ℕ, List, ◌++◌, codes, decimal}
use Rattle.message.specs.Message.{Key, shared, Msg, agent, nonce, text, key, pair, seal}

-- the two agents of a key
abbrev pub owners : Key → List ℕ
owners (shared a b) = decimal a ++ (codes " " ++ decimal b)

-- `seal 0 1 nonce 258`, for instance
abbrev pub words : Msg → List ℕ
words (agent n) = codes "agent " ++ decimal n
words (nonce n) = codes "nonce " ++ decimal n
words (text n) = codes "text " ++ decimal n
words (key k) = codes "key " ++ owners k
words (pair l r) = codes "pair " ++ (words l ++ (codes " " ++ words r))
words (seal k m) = codes "seal " ++ (owners k ++ (codes " " ++ words m))
