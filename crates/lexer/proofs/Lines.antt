-- A line's words, taken by `get` of a range.
use Rattle.std.proofs.Common.{◌≡◌, ℕ, ◌-◌, List, [], length, take, drop, Option, Some, None, unwrap_or, Bor, sym, ap, ◌∙◌, inl, inr, arith}
use Rattle.std.proofs.lemmas.List.{take_all, take_rest, take-map, drop_all, drop-map}
use Rattle.std.specs.Option.{UnwrapsOrElse}
use Rattle.std.specs.Slice.{IsGetRangeResult}
use Rattle.lexer.specs.declared.Word.{Word}
use Rattle.lexer.specs.Text.{word_of, words_of}

pub words_from : (r : Bor (List Word)) (ws : List Word) (i : ℕ) (o : Option (Bor (List Word))) → UnwrapsOrElse o (λ x. x.now ≡ []) r → IsGetRangeResult ws i (length ws) o → words_of r.now ≡ drop i (words_of ws)
words_from r ws i (Some x) e got = ap words_of (ap (λ y. y.now) e ∙ got.0.2 ∙ take_rest ws i) ∙ sym (drop-map word_of i ws)
words_from r ws i None e got = ap words_of (e ∙ sym (drop_all i ws (elim got.0 [ inl past ↦ omega arith | inr past ↦ omega arith ]))) ∙ sym (drop-map word_of i ws)

pub words_up_to : (ws : Bor (List Word)) (most : ℕ) (o : Option (Bor (List Word))) → IsGetRangeResult ws.now 0 most o → words_of (unwrap_or o ws).now ≡ take most (words_of ws.now)
words_up_to ws most (Some x) got = let all : most - 0 ≡ most = omega arith in ap words_of (got.0.2 ∙ ap (λ n. take n ws.now) all) ∙ sym (take-map word_of most ws.now)
words_up_to ws most None got = ap words_of (sym (take_all most ws.now (elim got.0 [ inl past ↦ omega arith | inr past ↦ omega arith ]))) ∙ sym (take-map word_of most ws.now)
