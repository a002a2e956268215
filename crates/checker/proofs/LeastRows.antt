-- What the least row that breaks the test of a role's steps is, where the pieces of the test are made from a sheet that was read.
use Rattle.std.proofs.Common.{◌≡◌, ℕ, ◌<◌, ◌≤◌, List, map, length, take, Some, None, Option, sym, subst}
use Rattle.std.specs.Prelude.{Vec}
use Rattle.std.specs.declared.alloc.Global.{Global}
use Rattle.std.specs.List.{slice_get}
use Rattle.message.specs.declared.Atom.{Atom}
use Rattle.message.specs.declared.Kind.{Kind}
use Rattle.model.specs.Sheet.{Role, Sheet, Step}
use Rattle.instances.specs.Instances.{Honest, MayPlay}
use Rattle.scale.specs.Scales.{Scale}
use Rattle.search.specs.declared.place.Counts.{Counts}
use Rattle.search.specs.declared.place.Place.{Place}
use Rattle.search.specs.Exchange.{Invariant}
use Rattle.search.specs.Rows.{Breaking, Empty, Finds, Least}
use Rattle.sheet_laws.specs.Counts.{ScriptCounted}
use Rattle.sheet_laws.specs.References.{Referring}
use Rattle.sheet_laws.proofs.Counting.{in_range}
use Rattle.sheet_laws.proofs.References.{names_refer}
use Rattle.sheet_laws.proofs.Messaging.{each_at}
use Rattle.checker.specs.Narrowing.{LeastFor, WasRead}
use Rattle.checker.specs.Rows.{choice_at, counts, fitted, role_choices, role_slots}
use Rattle.checker.specs.Tests.{RowBreaks}
use Rattle.checker.specs.Verdicts.{BadStep, FirstOf}
use Rattle.checker.proofs.StepTesting.{least_bad, none_bad, rows_blind}

pub refers : (sheet : Sheet) → WasRead sheet → Referring sheet
refers sheet (text, is) = names_refer text sheet is

few_variables : (sheet : Sheet) → WasRead sheet → (r : ℕ) (role : Role) → slice_get sheet.roles r ≡ Some role → length role.variables ≤ 5
few_variables sheet (text, is) r role is-role = (each_at ScriptCounted sheet.roles r role (in_range text sheet is).scripts is-role).0

module _ (scale : Scale) (sheet : Sheet) (read : WasRead sheet) (r a bound : ℕ) (role : Role) (is-role : slice_get sheet.roles r ≡ Some role) (honest : Honest sheet a) (plays : MayPlay sheet role a)
    (slots : List (Option Kind)) (are-slots : slots ≡ role_slots role.variables) (steps : List Step) (are-steps : steps ≡ take bound role.steps)
    (named : Counts) (are-named : named ≡ counts sheet) (ps : List Place) (places : map choice_at ps ≡ role_choices sheet r a 0 role.variables) where
  abbrev Broken : List ℕ → Type 0
  Broken row = (k : ℕ) × RowBreaks scale sheet a slots steps row k

  pub blind : Invariant named ps Broken
  blind =
      rw (are-slots, are-steps, are-named)
      (rows_blind scale sheet r a role is-role honest plays (few_variables sheet read r role is-role) bound ps places (refers sheet read))

  pub none_for : Empty (Breaking named ps Broken) → (k : ℕ) (values : List (Option Atom)) → k < bound → BadStep scale sheet r k a values → ⊥
  none_for none =
      none_bad scale sheet r a role is-role honest plays (few_variables sheet read r role is-role) bound ps places (rw (are-slots, are-steps, are-named) at none)

  pub least_for : (xs : List ℕ) → Least (Breaking named ps Broken) xs → (k : ℕ) (os : List (Option Atom)) → FirstOf (RowBreaks scale sheet a slots steps xs) k → fitted slots xs ≡ Some os → LeastFor scale sheet r bound a k os
  least_for xs l k os first is =
      least_bad scale sheet r a role is-role honest plays (few_variables sheet read r role is-role) bound ps places xs (rw (are-slots, are-steps, are-named) at l) k os (rw (are-slots, are-steps) at first) (rw are-slots at is)

  pub unbroken : (xs : List ℕ) → Least (Breaking named ps Broken) xs → ((k : ℕ) → RowBreaks scale sheet a slots steps xs k → ⊥) → ⊥
  unbroken xs l none = none l.is.1.0 l.is.1.1

  -- what the search answers, if it may exchange strangers
  abbrev Answers : Option (Vec ℕ Global) → Type 0
  Answers o = Finds (Breaking named ps Broken) o

  module _ (found : Option (Vec ℕ Global)) (all : Invariant named ps Broken → Answers found) where
    pub none_found : found ≡ None → (k : ℕ) (values : List (Option Atom)) → k < bound → BadStep scale sheet r k a values → ⊥
    none_found is = none_for (subst Answers is (all blind))

    module _ (row : Vec ℕ Global) (is : found ≡ Some row) (lent : List ℕ) (same : lent ≡ row.items) where
      least_row : Least (Breaking named ps Broken) lent
      least_row = subst (Least (Breaking named ps Broken)) (sym same) (subst Answers is (all blind))

      pub some_broken : ((k : ℕ) → RowBreaks scale sheet a slots steps lent k → ⊥) → ⊥
      some_broken none = unbroken lent least_row none

      pub some_found : (k : ℕ) (os kept : List (Option Atom)) → kept ≡ os → FirstOf (RowBreaks scale sheet a slots steps lent) k × (fitted slots lent ≡ Some os) → LeastFor scale sheet r bound a k kept
      some_found k os kept copied (first, is-values) = rw copied (least_for lent least_row k os first is-values)
