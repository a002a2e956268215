-- Messages as their nodes in prefix order.
use Rattle.std.specs.Prelude.{List, [], ◌∷◌, ◌++◌}
use Rattle.message.specs.declared.Atom.TheVariants.{Agent, Nonce, Text}
use Rattle.message.specs.Message.{Msg, agent, nonce, text, key, pair, seal, shared}
use Rattle.ranks.specs.declared.piece.Piece.{Piece}
use Rattle.ranks.specs.declared.piece.Piece.TheVariants as piece

-- Each node stands before those that belong to it.
abbrev pub pieces : Msg → List Piece
pieces (agent n) = piece.Single (Agent n) ∷ []
pieces (nonce n) = piece.Single (Nonce n) ∷ []
pieces (text n) = piece.Single (Text n) ∷ []
pieces (key (shared a b)) = piece.Key a b ∷ []
pieces (pair l r) = piece.Pair ∷ pieces l ++ pieces r
pieces (seal (shared a b) m) = piece.Seal a b ∷ pieces m
