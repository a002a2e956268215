use Rattle.std.proofs.Common.{ℕ, ◌==◌, length, sym, ap, ◌∙◌, rules}
use Rattle.std.proofs.lemmas.List.Sums.{position_or_len_is}
use Rattle.std.proofs.lemmas.List.Splits.{slice_split_none}
use Rattle.lexer.specs.Text.{placed}
use Rattle.lexer.proofs.Split.{pieces_left-some, placed_first}
use Rattle.lexer.proofs.pieces.PiecesIterator.next.Goals as goal

pub returns-in-Some-clause-steps : goal.returns-in-Some-clause-steps
returns-in-Some-clause-steps c =
    let s = c.args.self.now.separator in
    let p = c.in_ok-piece.piece in
    let found = position_or_len_is (λ (b : ℕ). b == s) p.text.now c.in-Some.end 0 (search rules) (search rules) (search rules) in
    pieces_left-some c.args.self.now p (sym c.take.ensures.value ∙ c.in_ok-piece.was) ∙ placed_first s p.place c.in-Some.end p.text.now found (search rules)

pub returns-in-Some-clause-goes : goal.returns-in-Some-clause-goes
returns-in-Some-clause-goes c =
    let shorter = ap length (returns-in-Some-clause-steps c) in
    search rules

pub returns-in-None-clause-steps : goal.returns-in-None-clause-steps
returns-in-None-clause-steps c =
    let s = c.args.self.now.separator in
    let p = c.in_ok-piece.piece in
    rw c.take.ensures.after
    (pieces_left-some c.args.self.now p (sym c.take.ensures.value ∙ c.in_ok-piece.was) ∙ ap (placed p.place) (slice_split_none (λ b. b == s) p.text.now (search rules)))

pub returns-in-None-clause-goes : goal.returns-in-None-clause-goes
returns-in-None-clause-goes c =
    let shorter = ap length (returns-in-None-clause-steps c) in
    search rules
