-- Some verdict is right.
use Rattle.std.proofs.Common.{◌≡◌, ℕ, ◌⊎◌, List, Some, Option, inl, inr}
use Rattle.message.specs.declared.Atom.{Atom}
use Rattle.model.specs.Sheet.{Sheet}
use Rattle.instances.specs.Actions.{Event, event}
use Rattle.instances.specs.Substitution.{names_alone}
use Rattle.scale.specs.Scales.{Laws, Scale}
use Rattle.ranks.specs.Conditions.{CompletionNot, KnowledgePositive, SealsAgree}
use Rattle.ranks.specs.Ranks.{PositiveEvent}
use Rattle.ranks.proofs.Finding.{dec_by}
use Rattle.checker.specs.Laws.{SomeVerdict}
use Rattle.checker.specs.Verdicts.{BadKnown, BadRanked, BadSeal, BadStep, FirstOf, Judges, LeastSeal, LeastStep, Verdict, accepted, acted, completed, known, ranked, sealed}
use Rattle.checker.proofs.BadKnowledge.{none_knowledge}
use Rattle.checker.proofs.BadSeals.{none_agree}
use Rattle.checker.proofs.BadSteps.{none_maintain}
use Rattle.checker.proofs.Deciding.{event_decided, not_decided, there_decided}
use Rattle.checker.proofs.FindingKnowledge.{first_known, first_ranked}
use Rattle.checker.proofs.FindingSeals.{first_seal}
use Rattle.checker.proofs.FindingSteps.{first_step}

module _ (scale : Scale) (sheet : Sheet) where
  -- whether the third condition holds
  pub completion_decided : Dec (CompletionNot scale sheet)
  completion_decided =
      dec_by
      (λ (none : (e : Event) × (event names_alone sheet.claim.completion ≡ Some e) × PositiveEvent scale sheet e → ⊥) e lists positive. none (e, lists, positive))
      (λ not x. not x.0 x.1 x.2)
      (not_decided (there_decided (PositiveEvent scale sheet) (event_decided scale sheet) (event names_alone sheet.claim.completion)))

  abbrev Judged : Type 0
  Judged = (v : Verdict) × Judges scale sheet v

  module _ (knowledge : KnowledgePositive scale sheet) where
    from-steps : (agree : SealsAgree scale sheet) (completion : CompletionNot scale sheet)
        → ((r : ℕ) × (k : ℕ) × (a : ℕ) × (values : List (Option Atom)) × LeastStep scale sheet r k a values) ⊎ ((r k a : ℕ) (values : List (Option Atom)) → BadStep scale sheet r k a values → ⊥) → Judged
    from-steps agree completion (inl l) = (acted l.0 l.1 l.2 l.3, l.4)
    from-steps agree completion (inr none) = (accepted, record { first = knowledge; second = agree; third = completion; fourth = none_maintain scale sheet none })

    from-completion : SealsAgree scale sheet → Dec (CompletionNot scale sheet) → Judged
    from-completion agree (yes c) = from-steps agree c (first_step scale sheet knowledge agree c)
    from-completion agree (no n) = (completed, (knowledge, agree, n))

    from-seals : ((i : ℕ) × (values : List (Option Atom)) × LeastSeal scale sheet i values) ⊎ ((i : ℕ) (values : List (Option Atom)) → BadSeal scale sheet i values → ⊥) → Judged
    from-seals (inl l) = (sealed l.0 l.1, l.2)
    from-seals (inr none) = from-completion (none_agree scale sheet none) completion_decided

  module _ (laws : Laws scale) where
    from-ranked : ((i : ℕ) → BadKnown scale sheet i → ⊥) → ((i : ℕ) × FirstOf (BadRanked scale sheet) i) ⊎ ((i : ℕ) → BadRanked scale sheet i → ⊥) → Judged
    from-ranked no-known (inl f) = (ranked f.0, (no-known, f.1))
    from-ranked no-known (inr none) = let k = none_knowledge scale sheet laws no-known none in from-seals k (first_seal scale sheet k)

    from-known : ((i : ℕ) × FirstOf (BadKnown scale sheet) i) ⊎ ((i : ℕ) → BadKnown scale sheet i → ⊥) → Judged
    from-known (inl f) = (known f.0, f.1)
    from-known (inr none) = from-ranked none (first_ranked scale sheet)

pub some_verdict : (scale : Scale) → Laws scale → SomeVerdict scale
some_verdict scale laws sheet = from-known scale sheet laws (first_known scale sheet)
