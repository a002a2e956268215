-- Where the first condition fails, there is a bad `know` or `rank` line, and the other way round.
use Rattle.std.proofs.Common.{◌≡◌, ℕ, true, inl, inr, ap, ◌∙◌}
use Rattle.std.specs.Prelude.{ℤ}
use Rattle.message.specs.Message.{Msg, agent, key, nonce, pair, seal, text}
use Rattle.model.specs.Sheet.{Sheet}
use Rattle.instances.specs.Start.{Own}
use Rattle.scale.specs.Scales.{Laws, Scale}
use Rattle.ranks.specs.Conditions.{KnowledgePositive}
use Rattle.ranks.specs.Ranks.{AtomRank, ListsMessage, Positive}
use Rattle.ranks.proofs.Lines.{found}
use Rattle.ranks.proofs.Single.{rank_total}
use Rattle.checker.specs.Verdicts.{BadKnown, BadRanked}
use Rattle.checker.proofs.Deciding.{positive_decided, stable}

module _ (scale : Scale) (sheet : Sheet) where
  -- Under the first condition no `know` line is bad, and no `rank` line.
  pub knowledge_none_known : KnowledgePositive scale sheet → (i : ℕ) → BadKnown scale sheet i → ⊥
  knowledge_none_known knowledge i (t, is, (m, e, not-positive)) = not-positive (knowledge m (inr (i, t, is, e)))

  pub knowledge_none_ranked : KnowledgePositive scale sheet → (i : ℕ) → BadRanked scale sheet i → ⊥
  knowledge_none_ranked knowledge i (l, is, (m, lists, own, not-positive)) = not-positive (knowledge m (inl own))

  module _ (laws : Laws scale) (no-known : (i : ℕ) → BadKnown scale sheet i → ⊥) (no-ranked : (i : ℕ) → BadRanked scale sheet i → ⊥) where
    -- an atom has the rank of the line that lists it, or the fixed value
    atom_positive : (m : Msg) → Own sheet m → (v : ℤ) → (Positive scale sheet m → ⊥) → AtomRank scale sheet m v → scale.above v ≡ true
    atom_positive m own v not-positive rank =
        elim (found (λ t. ListsMessage t m) (λ u. u ≡ scale.fixed) sheet.atoms v rank) [
          | inl f ↦ absurd (no-ranked f.at (f.line, f.is_line, (m, f.holds, own, not-positive)))
          | inr e ↦ ap scale.above e ∙ laws.fixed-above
        ]

    own_positive : (m : Msg) → Own sheet m → (Positive scale sheet m → ⊥) → ⊥
    own_positive (agent n) own np = let (v, rank) = rank_total scale sheet (agent n) in np (v, rank, atom_positive (agent n) own v np rank)
    own_positive (nonce n) own np = let (v, rank) = rank_total scale sheet (nonce n) in np (v, rank, atom_positive (nonce n) own v np rank)
    own_positive (text n) own np = let (v, rank) = rank_total scale sheet (text n) in np (v, rank, atom_positive (text n) own v np rank)
    own_positive (key k) own np = let (v, rank) = rank_total scale sheet (key k) in np (v, rank, atom_positive (key k) own v np rank)
    own_positive (pair l r) own np = absurd own
    own_positive (seal k m) own np = absurd own

    -- Where no such line is bad the first condition holds.
    pub none_knowledge : KnowledgePositive scale sheet
    none_knowledge m (inl own) = stable (positive_decided scale sheet m) (own_positive m own)
    none_knowledge m (inr told) = stable (positive_decided scale sheet m) (λ np. no-known told.0 (told.1, told.2, (m, told.3, np)))
