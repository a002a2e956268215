-- At most one verdict is right.
use Rattle.std.proofs.Common.{◌≡◌, ℕ, List, Option, inl, inr, sym, refl, ap, subst}
use Rattle.std.proofs.lemmas.Bool.{cases_order}
use Rattle.message.specs.declared.Atom.{Atom}
use Rattle.model.specs.Sheet.{Sheet}
use Rattle.scale.specs.Scales.{Scale}
use Rattle.checker.specs.Laws.{OneVerdict}
use Rattle.checker.specs.Verdicts.{BadKnown, BadRanked, Judges, LeastSeal, Verdict, accepted, known, ranked, sealed, completed, acted}
use Rattle.checker.proofs.BadKnowledge.{knowledge_none_known, knowledge_none_ranked}
use Rattle.checker.proofs.BadSeals.{agree_none, one_least_seal}
use Rattle.checker.proofs.BadSteps.{maintain_none, one_least_step}
use Rattle.checker.proofs.Deciding.{first_same}

module _ (scale : Scale) (sheet : Sheet) where
  same-line : (i j : ℕ) (xs ys : List (Option Atom)) → LeastSeal scale sheet i xs → LeastSeal scale sheet j ys → i ≡ j
  same-line i j xs ys f g =
      elim (cases_order i j) [
        | inl e ↦ e
        | inr (inl l) ↦ absurd (g.first i xs l f.is)
        | inr (inr l) ↦ absurd (f.first j ys l g.is)
      ]

  same-seal : (i j : ℕ) (xs ys : List (Option Atom)) → LeastSeal scale sheet i xs → LeastSeal scale sheet j ys → sealed i xs ≡ sealed j ys
  same-seal i j xs ys f g =
      let e = same-line i j xs ys f g in
      let h : LeastSeal scale sheet i ys = subst (λ (n : ℕ). LeastSeal scale sheet n ys) (sym e) g in
      let v = one_least_seal scale sheet i xs ys f h in
      λ n. sealed (e n) (v n)

  -- Two right verdicts, case by case.
  apart : (v w : Verdict) → Judges scale sheet v → Judges scale sheet w → v ≡ w
  apart accepted accepted f g = refl
  apart accepted (known i) f g = absurd (knowledge_none_known scale sheet f.first i g.is)
  apart accepted (ranked i) f g = absurd (knowledge_none_ranked scale sheet f.first i g.1.is)
  apart accepted (sealed i xs) f g = absurd (agree_none scale sheet f.second i xs g.is)
  apart accepted completed f g = absurd (g.2 f.third)
  apart accepted (acted r k a xs) f g = absurd (maintain_none scale sheet f.fourth r k a xs g.is)
  apart (known i) accepted f g = absurd (knowledge_none_known scale sheet g.first i f.is)
  apart (known i) (known j) f g = ap known (first_same (BadKnown scale sheet) i j f g)
  apart (known i) (ranked j) f g = absurd (g.0 i f.is)
  apart (known i) (sealed j ys) f g = absurd (knowledge_none_known scale sheet g.knowledge i f.is)
  apart (known i) completed f g = absurd (knowledge_none_known scale sheet g.0 i f.is)
  apart (known i) (acted q j b ys) f g = absurd (knowledge_none_known scale sheet g.knowledge i f.is)
  apart (ranked i) accepted f g = absurd (knowledge_none_ranked scale sheet g.first i f.1.is)
  apart (ranked i) (known j) f g = absurd (f.0 j g.is)
  apart (ranked i) (ranked j) f g = ap ranked (first_same (BadRanked scale sheet) i j f.1 g.1)
  apart (ranked i) (sealed j ys) f g = absurd (knowledge_none_ranked scale sheet g.knowledge i f.1.is)
  apart (ranked i) completed f g = absurd (knowledge_none_ranked scale sheet g.0 i f.1.is)
  apart (ranked i) (acted q j b ys) f g = absurd (knowledge_none_ranked scale sheet g.knowledge i f.1.is)
  apart (sealed i xs) accepted f g = absurd (agree_none scale sheet g.second i xs f.is)
  apart (sealed i xs) (known j) f g = absurd (knowledge_none_known scale sheet f.knowledge j g.is)
  apart (sealed i xs) (ranked j) f g = absurd (knowledge_none_ranked scale sheet f.knowledge j g.1.is)
  apart (sealed i xs) (sealed j ys) f g = same-seal i j xs ys f g
  apart (sealed i xs) completed f g = absurd (agree_none scale sheet g.1 i xs f.is)
  apart (sealed i xs) (acted q j b ys) f g = absurd (agree_none scale sheet g.agree i xs f.is)
  apart completed accepted f g = absurd (f.2 g.third)
  apart completed (known j) f g = absurd (knowledge_none_known scale sheet f.0 j g.is)
  apart completed (ranked j) f g = absurd (knowledge_none_ranked scale sheet f.0 j g.1.is)
  apart completed (sealed j ys) f g = absurd (agree_none scale sheet f.1 j ys g.is)
  apart completed completed f g = refl
  apart completed (acted q j b ys) f g = absurd (f.2 g.completion)
  apart (acted r k a xs) accepted f g = absurd (maintain_none scale sheet g.fourth r k a xs f.is)
  apart (acted r k a xs) (known j) f g = absurd (knowledge_none_known scale sheet f.knowledge j g.is)
  apart (acted r k a xs) (ranked j) f g = absurd (knowledge_none_ranked scale sheet f.knowledge j g.1.is)
  apart (acted r k a xs) (sealed j ys) f g = absurd (agree_none scale sheet f.agree j ys g.is)
  apart (acted r k a xs) completed f g = absurd (g.2 f.completion)
  apart (acted r k a xs) (acted q j b ys) f g = one_least_step scale sheet r k a q j b xs ys f g

pub one_verdict : (scale : Scale) → OneVerdict scale
one_verdict scale sheet v w f g = apart scale sheet v w f g
