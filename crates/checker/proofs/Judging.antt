-- What is found, condition by condition, is the right verdict.
use Rattle.std.proofs.Common.{◌≡◌, ℕ, ◌<◌, ◌≤◌, List, map, length, Option, sym, ap, ◌∙◌, arith}
use Rattle.std.proofs.lemmas.List.{length-map}
use Rattle.std.proofs.lemmas.Option.{slice_get_within}
use Rattle.model.specs.declared.stored.Role as roles
use Rattle.model.specs.Stored.{role_of}
use Rattle.checker.proofs.Clear.{Clear, clear_all}
use Rattle.message.specs.declared.Atom.{Atom}
use Rattle.model.specs.Sheet.{Sheet}
use Rattle.scale.specs.Scales.{Laws, Scale}
use Rattle.ranks.specs.Conditions.{CompletionNot, KnowledgePositive, SealsAgree}
use Rattle.checker.specs.Narrowing.{FirstRole}
use Rattle.checker.specs.Sealing.{FirstLine}
use Rattle.checker.specs.Verdicts.{BadKnown, BadRanked, BadSeal, BadStep, Judges, accepted, acted, completed, sealed}
use Rattle.checker.proofs.BadKnowledge.{none_knowledge}
use Rattle.checker.proofs.BadSeals.{none_agree}
use Rattle.checker.proofs.BadSteps.{none_maintain}

abbrev pub BadRole : Scale → Sheet → ℕ → Type 0
BadRole scale sheet r = (k : ℕ) × (a : ℕ) × (values : List (Option Atom)) × BadStep scale sheet r k a values

module _ (scale : Scale) (sheet : Sheet) (laws : Laws scale) (known : (i : ℕ) → BadKnown scale sheet i → ⊥) (ranked : (i : ℕ) → BadRanked scale sheet i → ⊥) where
  knowledge : KnowledgePositive scale sheet
  knowledge = none_knowledge scale sheet laws known ranked

  pub sealed_right : (i : ℕ) (values : List (Option Atom)) → FirstLine scale sheet i values → Judges scale sheet (sealed i values)
  sealed_right i values f = record { knowledge = knowledge; is = f.least.is; first = f.none-before; least = f.least.least }

  module _ (lines : (i : ℕ) (values : List (Option Atom)) → BadSeal scale sheet i values → ⊥) where
    agree : SealsAgree scale sheet
    agree = none_agree scale sheet lines

    pub completed_right : (CompletionNot scale sheet → ⊥) → Judges scale sheet completed
    completed_right completes = (knowledge, agree, completes)

    module _ (completion : CompletionNot scale sheet) where
      pub acted_right : (r k a : ℕ) (values : List (Option Atom)) → FirstRole scale sheet r k a values → Judges scale sheet (acted r k a values)
      acted_right r k a values f = record {
        knowledge = knowledge;
        agree = agree;
        completion = completion;
        is = f.least.is;
        first-role = f.none-before;
        first-step = f.least.first-step;
        least = f.least.least;
      }

      pub accepted_right : ((r k a : ℕ) (values : List (Option Atom)) → BadStep scale sheet r k a values → ⊥) → Judges scale sheet accepted
      accepted_right none = record { first = knowledge; second = agree; third = completion; fourth = none_maintain scale sheet none }

-- ---- looking through roles

module _ (scale : Scale) (sheet : Sheet) where
  pub no_role : (rs : List roles.Role) → map role_of rs ≡ sheet.roles → (k : ℕ) → length rs ≤ k → Clear (BadRole scale sheet) k → (r j a : ℕ) (values : List (Option Atom)) → BadStep scale sheet r j a values → ⊥
  no_role rs are k past clear r j a values bad =
      clear_all (BadRole scale sheet) k (length rs) clear past
      (λ q p. let lt : q < length sheet.roles = slice_get_within sheet.roles q p.3.role p.3.is-role in omega (arith, sym (ap length are) ∙ length-map rs role_of, lt)) r (j, a, values, bad)
