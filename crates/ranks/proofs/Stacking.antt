-- Putting ranks on the stack.
use Rattle.std.specs.Prelude.{◌≡◌, ℕ, zero, suc, ◌+◌, ◌-◌, ◌<◌, ◌≤◌, ◌≢◌, List, [], ◌∷◌, length, drop, ℤ, pos, Some, None, Option, slice_index_or, slice_set}
use Rattle.std.proofs.Common.{sym, refl, ap, ◌∙◌, arith, take, take_all, length-drop, get_or-set_same, get_or-set_other}
use Rattle.model.specs.Sheet.{Sheet}
use Rattle.scale.specs.Scales.{Scale}
use Rattle.ranks.specs.declared.piece.Piece.{Piece}
use Rattle.ranks.specs.declared.piece.Piece.TheVariants as piece
use Rattle.ranks.specs.Ranking.{joined_top, ranked_on, seal_rank, sealed_top, stacked}
use Rattle.ranks.specs.Stacks.{tops}

tops_set : (xs : List ℤ) (n k : ℕ) (v : ℤ) → k ≤ n → tops (slice_set xs n v) k ≡ tops xs k
tops_set xs n zero v h = refl
tops_set xs n (suc k) v h =
    let ne : k ≢ n = omega arith in
    ap (λ (x : ℤ). x ∷ tops (slice_set xs n v) k) (get_or-set_other xs n k v (pos 0) ne) ∙ ap (λ (s : List ℤ). slice_index_or xs k (pos 0) ∷ s) (tops_set xs n k v (omega arith))

pub tops_push : (xs : List ℤ) (n : ℕ) (v : ℤ) → n < length xs → tops (slice_set xs n v) (n + 1) ≡ v ∷ tops xs n
tops_push xs n v h =
    let up : n + 1 ≡ suc n = omega arith in
    ap (tops (slice_set xs n v)) up
    ∙ ap (λ (x : ℤ). x ∷ tops (slice_set xs n v) n) (get_or-set_same xs n v (pos 0) h)
    ∙ ap (λ (s : List ℤ). v ∷ s) (tops_set xs n n v (omega arith))

-- ---- a turn of the loop

module _ (scale : Scale) (sheet : Sheet) where
  sealed_short : (o : Option ℤ) (s : List ℤ) → length (sealed_top o s) ≤ length s + 1
  sealed_short None s = omega arith
  sealed_short (Some v) [] = omega arith
  sealed_short (Some v) (u ∷ s) = omega arith

  joined_short : (s : List ℤ) → length (joined_top scale s) ≤ length s + 1
  joined_short [] = omega arith
  joined_short (u ∷ []) = omega arith
  joined_short (u ∷ v ∷ s) = omega arith

  -- a piece puts at most one rank more
  pub ranked_short : (ps : List Piece) (s : List ℤ) → length (ranked_on scale sheet ps s) ≤ length s + 1
  ranked_short [] s = omega arith
  ranked_short (piece.Single x ∷ ps) s = omega arith
  ranked_short (piece.Pair ∷ ps) s = joined_short s
  ranked_short (piece.Key a b ∷ ps) s = omega arith
  ranked_short (piece.Seal a b ∷ ps) s = sealed_short (seal_rank sheet (piece.Seal a b ∷ ps)) s

  pub stacked_at : (ps : List Piece) (i : ℕ) → i < length ps → stacked scale sheet (drop i ps) ≡ ranked_on scale sheet (drop i ps) (stacked scale sheet (drop (suc i) ps))
  stacked_at [] i h = absurd (omega arith)
  stacked_at (p ∷ ps) zero h = refl
  stacked_at (p ∷ ps) (suc i) h = stacked_at ps i (omega arith)

  -- what the loop keeps
  pub stack_kept : (ps : List Piece) (i : ℕ) (s after : List ℤ) → 0 < i → i ≤ length ps → length s + i ≤ length ps → s ≡ stacked scale sheet (drop i ps)
      → after ≡ ranked_on scale sheet (drop (i - 1) ps) s → (length after + (i - 1) ≤ length ps) × (after ≡ stacked scale sheet (drop (i - 1) ps))
  stack_kept ps i s after lo hi few is e =
      let up : suc (i - 1) ≡ i = omega arith in
      let short = ranked_short (drop (i - 1) ps) s in
      let step = stacked_at ps (i - 1) (omega arith) in
      (omega (arith, ap length e, short), e ∙ ap (ranked_on scale sheet (drop (i - 1) ps)) (is ∙ ap (λ k. stacked scale sheet (drop k ps)) (sym up)) ∙ sym step)

pub rest_whole : (ps : List Piece) (k : ℕ) → take (length ps - k) (drop k ps) ≡ drop k ps
rest_whole ps k = take_all (length ps - k) (drop k ps) (simp length-drop (omega arith))
