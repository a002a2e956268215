-- The bytes of a message's nodes.
use Rattle.std.specs.Prelude.{◌≡◌, ℕ, ◌+◌, ◌*◌, cond, List, [], ◌∷◌, Some, None, Option, ◌==◌}
use Rattle.message.specs.declared.Atom.{Atom}
use Rattle.message.specs.declared.Atom.TheVariants.{Agent, Nonce, Text}
use Rattle.message.specs.Message.{IsMessage, Msg, Reads}
use Rattle.ranks.specs.declared.piece.Piece.{Piece}
use Rattle.ranks.specs.declared.piece.Piece.TheVariants as piece
use Rattle.ranks.specs.declared.pieces.Pieces.{Pieces}
use Rattle.ranks.specs.Pieces.{pieces}

-- a number from its two bytes, the high one first
abbrev pub number_at : ℕ → ℕ → ℕ
number_at high low = high * 256 + low

-- what follows the letter of an agent, of a nonce or a text, and of a key or a seal
abbrev pub front_agent : List ℕ → Option (Piece × List ℕ)
front_agent [] = None
front_agent (n ∷ rest) = Some (piece.Single (Agent n), rest)

abbrev pub front_numbered : (ℕ → Atom) → List ℕ → Option (Piece × List ℕ)
front_numbered make [] = None
front_numbered make (high ∷ []) = None
front_numbered make (high ∷ low ∷ rest) = Some (piece.Single (make (number_at high low)), rest)

abbrev pub front_owned : (ℕ → ℕ → Piece) → List ℕ → Option (Piece × List ℕ)
front_owned make [] = None
front_owned make (a ∷ []) = None
front_owned make (a ∷ b ∷ rest) = Some (make a b, rest)

abbrev pub front_seal : List ℕ → Option (Piece × List ℕ)
front_seal [] = None
front_seal (letter ∷ rest) = front_owned piece.Seal rest

-- The node at the front of the bytes, and the bytes after it.
abbrev pub front_piece : List ℕ → Option (Piece × List ℕ)
front_piece [] = None
front_piece (letter ∷ body) =
    cond (letter == 65) (front_agent body)
    (cond (letter == 78) (front_numbered Nonce body)
    (cond (letter == 84) (front_numbered Text body)
    (cond (letter == 75) (front_owned piece.Key body)
    (cond (letter == 80) (Some (piece.Pair, body))
    (cond (letter == 69) (front_seal body) None)))))

-- The nodes of the message that the bytes are, or that they are none.
abbrev pub PiecesOf : List ℕ → Option Pieces → Type 0
PiecesOf bytes None = IsMessage bytes → ⊥
PiecesOf bytes (Some p) = (m : Msg) × Reads bytes m × (p ≡ pieces m)
