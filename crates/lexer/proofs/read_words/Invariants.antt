use Rattle.std.proofs.Common.{◌≡◌, ◌++◌, vec_items}
use Rattle.lexer.specs.Pieces.{pieces_left}
use Rattle.lexer.specs.Text.{are_words, placed, split, words_of}
use Rattle.lexer.proofs.Sofar.{texts}
use Rattle.lexer.proofs.read_words.Given as goal

abbrev pub invariant-loop-place : goal.invariant-loop-place
invariant-loop-place l = record {
  good : are_words (split 32 l.line.text.now) ≡ are_words (texts (pieces_left l.place-iterator));
  words : words_of (vec_items l.words) ++ pieces_left l.place-iterator ≡ placed l.line.place (split 32 l.line.text.now);
}
