-- Whether a `know` or `rank` line is bad is decided, so there is a first one or none.
use Rattle.std.proofs.Common.{◌≡◌, ℕ, ◌⊎◌, Bool, true, false, length, Some, sym, refl}
use Rattle.std.specs.List.{slice_get}
use Rattle.std.proofs.lemmas.Bool.{false≢true}
use Rattle.std.proofs.lemmas.Option.{slice_get_within}
use Rattle.message.specs.declared.Kind.TheVariants as kind
use Rattle.message.specs.Message.{Msg, agent, key, nonce, pair, seal, shared, size, text}
use Rattle.model.specs.Sheet.{Ranked, Sheet, honest, named}
use Rattle.model.specs.Trees.{Term}
use Rattle.instances.specs.Start.{Enemys, Own}
use Rattle.instances.specs.Substitution.{message, names_alone}
use Rattle.scale.specs.Scales.{Scale}
use Rattle.ranks.specs.Ranks.{ListsMessage, Positive}
use Rattle.ranks.proofs.Finding.{dec_by}
use Rattle.checker.specs.Verdicts.{BadKnown, BadRanked, FirstOf}
use Rattle.checker.proofs.Deciding.{at_most_decided, below_decided, both_decided, either_decided, first_or_none, not_decided, positive_decided, there_decided}

false_decided : (b : Bool) → Dec (b ≡ false)
false_decided true = no (λ e. false≢true (sym e))
false_decided false = yes refl

module _ (sheet : Sheet) where
  enemys_decided : (a : ℕ) → Dec (Enemys sheet a)
  enemys_decided a = false_decided (honest (slice_get sheet.agents a))

  own_decided : (m : Msg) → Dec (Own sheet m)
  own_decided (agent n) = below_decided n (size kind.Agent)
  own_decided (nonce n) = both_decided (at_most_decided (named sheet kind.Nonce) n) (below_decided n (size kind.Nonce))
  own_decided (text n) = both_decided (at_most_decided (named sheet kind.Text) n) (below_decided n (size kind.Text))
  own_decided (key (shared a b)) =
      both_decided (both_decided (at_most_decided a b) (below_decided b (size kind.Agent))) (either_decided (enemys_decided a) (enemys_decided b))
  own_decided (pair l r) = no (λ o. o)
  own_decided (seal k m) = no (λ o. o)

module _ (scale : Scale) (sheet : Sheet) where
  not_positive_decided : (m : Msg) → Dec (Positive scale sheet m → ⊥)
  not_positive_decided m = not_decided (positive_decided scale sheet m)

  known_decided : (i : ℕ) → Dec (BadKnown scale sheet i)
  known_decided i =
      there_decided (λ (t : Term). (m : Msg) × (message names_alone t ≡ Some m) × (Positive scale sheet m → ⊥))
      (λ t. there_decided (λ (m : Msg). Positive scale sheet m → ⊥) not_positive_decided (message names_alone t))
      (slice_get sheet.known i)

  ranked_decided : (i : ℕ) → Dec (BadRanked scale sheet i)
  ranked_decided i = there_decided (λ (l : Ranked Term). (m : Msg) × ListsMessage l.what m × Own sheet m × (Positive scale sheet m → ⊥)) line (slice_get sheet.atoms i)
    where
      line : (l : Ranked Term) → Dec ((m : Msg) × ListsMessage l.what m × Own sheet m × (Positive scale sheet m → ⊥))
      line l =
          dec_by
          (λ (x : (m : Msg) × (message names_alone l.what ≡ Some m) × (Own sheet m × (Positive scale sheet m → ⊥))). (x.0, x.1, x.2.0, x.2.1))
          (λ x. (x.0, x.1, (x.2, x.3)))
          (there_decided (λ (m : Msg). Own sheet m × (Positive scale sheet m → ⊥)) (λ m. both_decided (own_decided sheet m) (not_positive_decided m)) (message names_alone l.what))

  -- There is a first bad `know` line, or none.
  pub first_known : ((i : ℕ) × FirstOf (BadKnown scale sheet) i) ⊎ ((i : ℕ) → BadKnown scale sheet i → ⊥)
  first_known = first_or_none (BadKnown scale sheet) known_decided (length sheet.known) (λ i b. slice_get_within sheet.known i b.0 b.1)

  -- And so with the `rank` lines.
  pub first_ranked : ((i : ℕ) × FirstOf (BadRanked scale sheet) i) ⊎ ((i : ℕ) → BadRanked scale sheet i → ⊥)
  first_ranked = first_or_none (BadRanked scale sheet) ranked_decided (length sheet.atoms) (λ i b. slice_get_within sheet.atoms i b.0 b.1)
