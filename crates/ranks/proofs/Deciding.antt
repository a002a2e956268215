-- Whether bytes are a positive message is told by the rank of the message that they are.
use Rattle.std.specs.Prelude.{◌≡◌, ℕ, true, false, List, [], ◌++◌, ℤ, Some, None, Decides}
use Rattle.std.proofs.Common.{sym, ap, subst, ◌∙◌}
use Rattle.message.proofs.Shapes.{unique}
use Rattle.model.specs.Sheet.{Sheet}
use Rattle.scale.specs.Scales.{Scale}
use Rattle.ranks.specs.Ranks.{IsPositive, Rank, RankOf}
use Rattle.ranks.proofs.Single.{rank_one}

pub positive_none : (scale : Scale) (sheet : Sheet) (bytes : List ℕ) → RankOf scale sheet bytes None → Decides false (IsPositive scale sheet bytes)
positive_none scale sheet bytes none = (λ e. absurd (cc e), λ p. absurd (none (p.0, p.1)))

pub positive_some : (scale : Scale) (sheet : Sheet) (bytes : List ℕ) (v : ℤ) → RankOf scale sheet bytes (Some v) → Decides (scale.above v) (IsPositive scale sheet bytes)
positive_some scale sheet bytes v (m, reads, rank) = (
  λ e. (m, reads, (v, rank, e)),
  λ p.
      let (k, also, (u, its, above)) = p in
      let same : k ≡ m = (unique k m [] [] (ap (λ b. b ++ []) (also.form ∙ sym reads.form))).0 in
      let u-is : u ≡ v = rank_one scale sheet m u v (subst (λ x. Rank scale sheet x u) same its) rank in
      subst (λ w. scale.above w ≡ true) u-is above,
)
