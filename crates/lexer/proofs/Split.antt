-- The first piece of a text, and the others.
use Rattle.std.proofs.Common.{◌≡◌, ℕ, ◌+◌, ◌-◌, ◌<◌, ◌==◌, List, [], ◌∷◌, length, take, drop, Some, subst, sym, ap, ◌∙◌, arith}
use Rattle.std.specs.List.{position_or_len}
use Rattle.std.specs.Option.{option_map_or}
use Rattle.std.proofs.lemmas.List.{length-take-le, take_rest}
use Rattle.std.proofs.lemmas.List.Splits.{slice_split_first}
use Rattle.lexer.specs.declared.pieces.Piece.{Piece}
use Rattle.lexer.specs.declared.pieces.Pieces.{Pieces}
use Rattle.lexer.specs.Pieces.{pieces_left}
use Rattle.lexer.specs.Text.{placed, split}

pub pieces_left-some : (it : Pieces) (p : Piece) → it.rest ≡ Some p → pieces_left it ≡ placed p.place (split it.separator p.text.now)
pieces_left-some it p e = ap (λ rest. option_map_or (λ q. placed q.place (split it.separator q.text.now)) rest []) e

-- the first piece ends at the first separator, and the others are those of `&xs[n + 1..]`
pub placed_first : (s at n : ℕ) (xs : List ℕ) → position_or_len (λ b. b == s) xs ≡ n → n < length xs → placed at (split s xs) ≡ record { place = at; text = take n xs } ∷ placed (at + n + 1) (split s (take (length xs - (n + 1)) (drop (n + 1) xs)))
placed_first s at n xs e h =
    let cut : split s xs ≡ take n xs ∷ split s (drop (n + 1) xs) = subst (λ k. split s xs ≡ take k xs ∷ split s (drop (k + 1) xs)) e (slice_split_first (λ b. b == s) xs 0 (omega arith)) in
    let next : at + length (take n xs) + 1 ≡ at + n + 1 = omega (arith, length-take-le n xs) in
    ap (placed at) cut
    ∙ ap (λ k. record { place = at; text = take n xs } ∷ placed k (split s (drop (n + 1) xs))) next
    ∙ ap (λ more. record { place = at; text = take n xs } ∷ placed (at + n + 1) (split s more)) (sym (take_rest xs (n + 1)))
