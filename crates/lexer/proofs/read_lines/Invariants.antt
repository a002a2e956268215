use Rattle.std.proofs.Common.{◌≡◌, vec_items}
use Rattle.lexer.specs.Pieces.{pieces_left}
use Rattle.lexer.specs.Text.{lexed, lines_of}
use Rattle.lexer.proofs.Sofar.{after, lines_of_pieces}
use Rattle.lexer.proofs.read_lines.Given as goal

abbrev pub invariant-loop-line : goal.invariant-loop-line
invariant-loop-line l = lexed l.fn.text ≡ after (lines_of (vec_items l.lines)) (lines_of_pieces (pieces_left l.line-iterator))
