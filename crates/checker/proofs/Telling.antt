-- What the calls of ranks answer, as it is said of messages and events.
use Rattle.std.proofs.Common.{◌≡◌, ℕ, Bool, ◌↔◌, IsTrue, List, ℤ, Some, None, Option, sym, refl, ap, subst, ◌∙◌}
use Rattle.std.specs.Prelude.{Decides}
use Rattle.std.proofs.lemmas.Option.{none-some}
use Rattle.message.specs.Message.{Msg, Reads}
use Rattle.model.specs.Sheet.{Sheet}
use Rattle.model.specs.Trees.{Term}
use Rattle.instances.specs.Actions.{Event}
use Rattle.instances.specs.Substitution.{Values, message}
use Rattle.instances.specs.Writing.{Substitutes}
use Rattle.scale.specs.Scales.{Scale}
use Rattle.ranks.specs.Ranks.{EventRank, IsPositive, Positive, PositiveEvent, SignalRank}
use Rattle.ranks.proofs.Givings.{same_message}
use Rattle.ranks.proofs.Single.{ranks_single}
use Rattle.checker.specs.Trying.{Tells}

module _ (scale : Scale) (sheet : Sheet) where
  -- whether the bytes are positive, for the message that they are
  pub bytes_positive : (bytes : List ℕ) (m : Msg) → Reads bytes m → (b : Bool) → Decides b (IsPositive scale sheet bytes) → IsTrue b ↔ Positive scale sheet m
  bytes_positive bytes m reads b d = (
    λ e. let p = d.0 e in subst (Positive scale sheet) (same_message bytes p.0 m p.1 reads) p.2,
    λ p. d.1 (m, reads, p),
  )

  pub message_tells : (v : Values) (t : Term) (bytes : List ℕ) → Substitutes v t (Some bytes) → (b : Bool) → Decides b (IsPositive scale sheet bytes) → Tells (Positive scale sheet) (message v t) (Some b)
  message_tells v t bytes (m, is, reads) b d = (m, is, bytes_positive bytes m reads b d)

  pub no_message : (v : Values) (t : Term) → Substitutes v t None → Tells (Positive scale sheet) (message v t) None
  no_message v t is = is

  -- whether the rank is, for the event that has it
  pub event_tells : (o : Option Event) (v : ℤ) → SignalRank scale sheet o (Some v) → Tells (PositiveEvent scale sheet) o (Some (scale.above v))
  event_tells None v is = absurd (none-some v (sym is))
  event_tells (Some e) v rank = (e, refl, (λ above. (v, rank, above), λ p. ap scale.above (one v rank ∙ sym (one p.0 p.1)) ∙ p.2))
    where
      one : (u : ℤ) → EventRank scale sheet e u → u ≡ ((ranks_single scale sheet).1 e).0
      one u r = ((ranks_single scale sheet).1 e).2 u r

  pub no_event : (o : Option Event) → SignalRank scale sheet o None → Tells (PositiveEvent scale sheet) o None
  no_event None is = refl
  no_event (Some e) is = absurd is
