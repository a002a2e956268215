-- A piece of a text, and what the iterator over pieces has left.
use Rattle.std.specs.Prelude.{List, []}
use Rattle.std.specs.Option.{option_map_or}
use Rattle.lexer.specs.declared.pieces.Piece.{Piece}
use Rattle.lexer.specs.declared.pieces.Pieces.{Pieces}
use Rattle.lexer.specs.Text.{WordAt, placed, split}

abbrev pub piece_at : Piece → WordAt
piece_at p = record { place = p.place; text = p.text.now }

-- the pieces that are left, with their places
abbrev pub pieces_left : Pieces → List WordAt
pieces_left it = option_map_or (λ p. placed p.place (split it.separator p.text.now)) it.rest []
