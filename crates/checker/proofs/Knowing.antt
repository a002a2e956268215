-- The first line that is bad, by the lines as they are kept.
use Rattle.std.proofs.Common.{◌≡◌, ℕ, ◌<◌, Bool, true, false, IsTrue, ◌↔◌, ◌&&◌, not, Decides, List, [], ◌++◌, map, length, MatchOption, Some, None, Option, inl, inr, sym, refl, ap, subst, ◌∙◌, arith}
use Rattle.std.specs.List.{AllWithin, HoldsAt, slice_get}
use Rattle.std.specs.Option.{option_map}
use Rattle.std.proofs.lemmas.Bool.{false≢true}
use Rattle.std.proofs.lemmas.Option.{get_or_from_slice_get, none-some, same_Some, slice_get-map, slice_get_cases, slice_get_within}
use Rattle.message.specs.Message.{Msg, Reads}
use Rattle.message.proofs.Shapes.{unique}
use Rattle.model.specs.Sheet.{Sheet}
use Rattle.model.specs.Trees.{Term}
use Rattle.instances.specs.Start.{Own}
use Rattle.instances.specs.Substitution.{message, names_alone}
use Rattle.scale.specs.Scales.{Scale}
use Rattle.ranks.specs.Ranks.{IsPositive, Positive}
use Rattle.checker.specs.declared.knowledge.Listed.{Listed}
use Rattle.checker.specs.Knowing.{FirstIfAny, ListsBad, msg_of}

module _ {X M : Type 0} (of : X → M) (P : M → Type 0) (lines : List X) (all : List M) (are : map of lines ≡ all) where
  abbrev Has : ℕ → Type 0
  Has i = (m : M) × (slice_get all i ≡ Some m) × P m

  kept : (i : ℕ) → slice_get all i ≡ option_map of (slice_get lines i)
  kept i = sym (ap (λ l. slice_get l i) are) ∙ slice_get-map of lines i

  read : (o : Option X) (m : M) → option_map of o ≡ Some m → (x : X) × (o ≡ Some x) × (of x ≡ m)
  read None m e = absurd (none-some m e)
  read (Some x) m e = (x, refl, same_Some (of x) m e)

  none_below : (n : ℕ) → AllWithin (λ x. P (of x) → ⊥) lines 0 n → (i : ℕ) → i < n → Has i → ⊥
  none_below n none i below (m, is, p) =
      let (x, at, same) = read (slice_get lines i) m (sym (kept i) ∙ is) in
      none i x (omega arith) below (subst P (sym same ∙ ap of (sym (get_or_from_slice_get lines i x x at))) p)

  within : (i : ℕ) → Has i → i < length lines
  within i (m, is, p) = let (x, at, same) = read (slice_get lines i) m (sym (kept i) ∙ is) in slice_get_within lines i x at

  there : (i : ℕ) → i < length lines → HoldsAt (λ x. P (of x)) lines i → Has i
  there i below holds =
      elim (slice_get_cases lines i).1 [
        | inl c ↦ (of c.0, kept i ∙ ap (option_map of) c.2, subst (λ x. P (of x)) c.3 (holds c.0))
        | inr c ↦ absurd (omega (arith, below, c.0))
      ]

  -- What is found among the lines as they are kept is the first among the sheet's.
  pub first_kept : (r : Option ℕ) → MatchOption r (AllWithin (λ x. P (of x) → ⊥) lines 0 (length lines)) (λ i. (i < length lines) × HoldsAt (λ x. P (of x)) lines i × AllWithin (λ x. P (of x) → ⊥) lines 0 i) → FirstIfAny Has r
  first_kept None none = λ i has. none_below (length lines) none i (within i has) has
  first_kept (Some i) (below, holds, none) = record { is = there i below holds; none-before = none_below i none }

-- ---- messages

module _ (scale : Scale) (sheet : Sheet) where
  -- What bytes are is positive where they are a positive message.
  pub reads_positive : (bytes : List ℕ) (m : Msg) (r : Bool) → Reads bytes m → Decides r (IsPositive scale sheet bytes) → IsTrue r ↔ Positive scale sheet m
  reads_positive bytes m r reads d = (
    λ t.
        let (k, also, positive) = d.0 t in
        subst (Positive scale sheet) (unique k m [] [] (ap (λ b. b ++ []) (also.form ∙ sym reads.form))).0 positive,
    λ p. d.1 (m, reads, p),
  )

  -- Whether a line is bad is told by what it lists.
  pub listed_bad : (t : Term) (l : Listed) (own positive : Bool) → Some (msg_of l) ≡ message names_alone t → IsTrue own ↔ Own sheet (msg_of l) → IsTrue positive ↔ Positive scale sheet (msg_of l)
      → IsTrue (own && not positive) ↔ ListsBad scale sheet t
  listed_bad t l true false is o p = (λ e. (msg_of l, sym is, o.0 refl, λ x. absurd (false≢true (p.1 x))), λ b. refl)
  listed_bad t l true true is o p = (λ e. absurd (false≢true e), λ (m, lists, own, bad). absurd (bad (subst (Positive scale sheet) (same_Some (msg_of l) m (is ∙ lists)) (p.0 refl))))
  listed_bad t l false b is o p = (λ e. absurd (false≢true e), λ (m, lists, own, bad). absurd (false≢true (o.1 (subst (Own sheet) (sym (same_Some (msg_of l) m (is ∙ lists))) own))))

  pub unlisted : (t : Term) → None ≡ message names_alone t → IsTrue false ↔ ListsBad scale sheet t
  unlisted t is = (λ e. absurd (false≢true e), λ b. absurd (none-some b.0 (is ∙ b.1)))
