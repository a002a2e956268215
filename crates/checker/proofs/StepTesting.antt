-- The test of a role's steps tells no two strangers apart, and what the search finds by it are instances in which a step is bad.
use Rattle.std.proofs.Common.{◌≡◌, ℕ, zero, suc, ◌<◌, ◌≤◌, List, [], ◌∷◌, map, length, take, Some, None, Option, inl, inr, sym, refl, ap, subst, ◌∙◌, arith}
use Rattle.std.specs.List.{slice_get}
use Rattle.std.proofs.lemmas.Bool.{cases_lt, le-leb}
use Rattle.std.proofs.lemmas.List.{length-map}
use Rattle.std.proofs.lemmas.Option.{none-some, same_Some}
use Rattle.message.specs.declared.Atom.{Atom}
use Rattle.message.specs.declared.Kind.{Kind}
use Rattle.message.specs.Message.{Msg}
use Rattle.model.specs.Sheet.{Role, Sheet, Step, Variable}
use Rattle.instances.specs.Actions.{Action, does, done_at, receives, signals}
use Rattle.instances.specs.Instances as instances
use Rattle.instances.specs.Instances.{Honest, Instance, MayPlay, played}
use Rattle.instances.specs.Substitution.{Values}
use Rattle.scale.specs.Scales.{Scale}
use Rattle.search.specs.declared.place.Counts.{Counts}
use Rattle.search.specs.declared.place.Place.{Place}
use Rattle.search.specs.Exchange.{Invariant, exchanged}
use Rattle.search.specs.Rows.{Allowed, Breaking, Empty, Least, Less}
use Rattle.search.proofs.Exchanged.{allowed-exchanged}
use Rattle.sheet_laws.specs.References.{Referring}
use Rattle.checker.specs.Rows.{choice_at, counts, filled, filling, fitted, role_choices, role_slots}
use Rattle.checker.specs.Narrowing.{LeastFor}
use Rattle.checker.specs.Tests.{RowBreaks}
use Rattle.checker.specs.Trying.{Breaks, Refused, done}
use Rattle.checker.specs.Verdicts.{BadStep, FirstOf, numbers}
use Rattle.ranks.specs.Ranks.{Positive, kind_of}
use Rattle.checker.proofs.Deciding.{positive_decided, stable}
use Rattle.checker.proofs.Filling.{kinds}
use Rattle.checker.proofs.BadSteps.{Each, each_declared, each_from, each_length, each_whole}
use Rattle.checker.proofs.Placing.{allowed_filling, allowed_in, allowed_length, count_named, each_row, each_same, in_allowed, kinds_at, role_kinds, row_each}
use Rattle.checker.proofs.StrangersRows.{bad_step_blind, numbers_filled}

-- The steps are the first of a role that the agent may play, and the places are those of its variables.
pub record StepSuits (sheet : Sheet) (a : ℕ) (slots : List (Option Kind)) (steps : List Step) (named : Counts) (places : List Place) : Type 0 where
  pub number : ℕ
  pub role : Role
  pub bound : ℕ
  pub is-role : slice_get sheet.roles number ≡ Some role
  pub is-honest : Honest sheet a
  pub plays : MayPlay sheet role a
  pub few : length role.variables ≤ 5
  pub are-steps : steps ≡ take bound role.steps
  pub are-slots : slots ≡ role_slots role.variables
  pub are-named : named ≡ counts sheet
  pub are-places : map choice_at places ≡ role_choices sheet number a 0 role.variables
  pub referring : Referring sheet

-- ---- the first of some steps

taken_at : {A : Type 0} (n : ℕ) (xs : List A) (j : ℕ) → j < n → slice_get (take n xs) j ≡ slice_get xs j
taken_at zero xs j lt = absurd (omega arith)
taken_at (suc n) [] j lt = refl
taken_at (suc n) (x ∷ xs) zero lt = refl
taken_at (suc n) (x ∷ xs) (suc j) lt = taken_at n xs j (omega arith)

taken_past : {A : Type 0} (n : ℕ) (xs : List A) (j : ℕ) → n ≤ j → slice_get (take n xs) j ≡ None
taken_past zero xs j le = refl
taken_past (suc n) [] j le = refl
taken_past (suc n) (x ∷ xs) zero le = absurd (omega arith)
taken_past (suc n) (x ∷ xs) (suc j) le = taken_past n xs j (omega arith)

-- ---- instances and rows

module _ (sheet : Sheet) (r a : ℕ) (role : Role) (honest : Honest sheet a) (plays : MayPlay sheet role a) (ps : List Place) (places : map choice_at ps ≡ role_choices sheet r a 0 role.variables) where
  abbrev values_of : List ℕ → List (Option Atom)
  values_of xs = filled (role_slots role.variables) xs

  row_each_at : (xs : List ℕ) → Allowed (counts sheet) ps xs → Each (instances.Allowed sheet r a) role.variables (values_of xs)
  row_each_at xs h = row_each sheet r a role.variables xs (allowed_in sheet ps (role_choices sheet r a 0 role.variables) places xs h)

  row_instance : (xs : List ℕ) → Allowed (counts sheet) ps xs → Instance sheet r role a (values_of xs)
  row_instance xs h =
      let each = row_each_at xs h in
      record {
        is-honest = honest;
        plays = plays;
        whole = λ i v is. each_whole (instances.Allowed sheet r a) role.variables (values_of xs) each i v is;
        declared = λ i x is. each_declared (instances.Allowed sheet r a) role.variables (values_of xs) each i x is;
      }

  row_one_each : (xs : List ℕ) → Allowed (counts sheet) ps xs → length (values_of xs) ≡ length role.variables
  row_one_each xs h = each_length (instances.Allowed sheet r a) role.variables (values_of xs) (row_each_at xs h)

  instance_each : (os : List (Option Atom)) → Instance sheet r role a os → length os ≡ length role.variables → Each (instances.Allowed sheet r a) role.variables os
  instance_each os inst same = each_from (instances.Allowed sheet r a) role.variables os same inst.whole

  instance_row : (os : List (Option Atom)) → Instance sheet r role a os → length os ≡ length role.variables → Allowed (counts sheet) ps (numbers os)
  instance_row os inst same = in_allowed sheet ps (role_choices sheet r a 0 role.variables) places (numbers os) (each_row sheet r a role.variables os (instance_each os inst same))

  instance_same : (os : List (Option Atom)) → Instance sheet r role a os → length os ≡ length role.variables → values_of (numbers os) ≡ os
  instance_same os inst same = each_same sheet r a role.variables os (instance_each os inst same)

  row_filling : (xs : List ℕ) → Allowed (counts sheet) ps xs → filling (role_slots role.variables) xs ≡ Some (values_of xs)
  row_filling xs h =
      allowed_filling sheet (role_choices sheet r a 0 role.variables) (role_slots role.variables) xs (role_kinds sheet r a 0 role.variables)
      (allowed_in sheet ps (role_choices sheet r a 0 role.variables) places xs h)

-- ---- bad steps and breaks

module _ (scale : Scale) (sheet : Sheet) (r a : ℕ) (role : Role) (is-role : slice_get sheet.roles r ≡ Some role) (bound : ℕ) (os : List (Option Atom)) where
  abbrev v : Values
  v = played a os

  taken_done : (j : ℕ) → j < bound → done v (take bound role.steps) j ≡ does role v j
  taken_done j lt = ap (λ o. done_at v o) (taken_at bound role.steps j lt)

  break_within : (k : ℕ) (d : Action) → done v (take bound role.steps) k ≡ Some d → k < bound
  break_within k d is = elim (cases_lt k bound) [ inl l ↦ l | inr past ↦ absurd (none-some d (sym (ap (λ o. done_at v o) (taken_past bound role.steps k past)) ∙ is)) ]

  -- What breaks the condition among the first steps is a bad step.
  break_bad : (k : ℕ) → Instance sheet r role a os → length os ≡ length role.variables → Breaks scale sheet (done v (take bound role.steps)) k → (k < bound) × BadStep scale sheet r k a os
  break_bad k inst same b =
      let within = break_within k b.action b.is-action in (
        within,
        record {
          role = role;
          is-role = is-role;
          is-instance = inst;
          one-each = same;
          action = b.action;
          is-action = sym (taken_done k within) ∙ b.is-action;
          not-needed = λ j e lt is lists. b.not-needed j (signals e) lt (taken_done j (omega arith) ∙ is) (e, refl, lists);
          all-received = λ j m lt is. received j m (b.all-received j (receives m) lt (taken_done j (omega arith) ∙ is));
          fails = b.fails;
        },
      )
    where
      received : ℕ → (m : Msg) → (Refused scale sheet (receives m) → ⊥) → Positive scale sheet m
      received j m not = stable (positive_decided scale sheet m) (λ np. not (m, refl, np))

  -- And the other way round.
  bad_break : (k : ℕ) → k < bound → BadStep scale sheet r k a os → Breaks scale sheet (done v (take bound role.steps)) k
  bad_break k within bad = record {
    action = bad.action;
    is-action = there k within ∙ bad.is-action;
    not-needed = λ j d lt is n. bad.not-needed j n.0 lt (sym (there j (omega arith)) ∙ is ∙ ap Some n.1) n.2;
    all-received = λ j d lt is f. f.2 (bad.all-received j f.0 lt (sym (there j (omega arith)) ∙ is ∙ ap Some f.1));
    fails = bad.fails;
  }
    where
      there : (j : ℕ) → j < bound → done v (take bound role.steps) j ≡ does bad.role v j
      there j lt = taken_done j lt ∙ ap (λ (x : Role). does x v j) (same_Some role bad.role (sym is-role ∙ bad.is-role))

  bad_instance : (k : ℕ) → BadStep scale sheet r k a os → Instance sheet r role a os × (length os ≡ length role.variables)
  bad_instance k bad =
      subst (λ (x : Role). Instance sheet r x a os × (length os ≡ length x.variables)) (same_Some bad.role role (sym bad.is-role ∙ is-role)) (bad.is-instance, bad.one-each)

-- ---- rows for which a step is bad

module _ (scale : Scale) (sheet : Sheet) (r a : ℕ) (role : Role) (is-role : slice_get sheet.roles r ≡ Some role) (honest : Honest sheet a) (plays : MayPlay sheet role a) (few : length role.variables ≤ 5) (bound : ℕ)
    (ps : List Place) (places : map choice_at ps ≡ role_choices sheet r a 0 role.variables) where
  abbrev as_values : List ℕ → List (Option Atom)
  as_values xs = filled (role_slots role.variables) xs

  abbrev Broken : List ℕ → ℕ → Type 0
  Broken xs k = RowBreaks scale sheet a (role_slots role.variables) (take bound role.steps) xs k

  row_fitted : (xs : List ℕ) → Allowed (counts sheet) ps xs → fitted (role_slots role.variables) xs ≡ Some (as_values xs)
  row_fitted xs h =
      let few-slots : length (role_slots role.variables) ≤ 5 = omega (arith, length-map role.variables (λ (v : Variable). Some (kind_of v.sort))) in
      rw (le-leb _ 5 few-slots) (row_filling sheet r a role honest plays ps places xs h)

  row_bad : (xs : List ℕ) (k : ℕ) → Allowed (counts sheet) ps xs → Broken xs k → (k < bound) × BadStep scale sheet r k a (as_values xs)
  row_bad xs k h b =
      let same : b.values ≡ as_values xs = same_Some _ _ (sym b.is-values ∙ row_fitted xs h) in
      break_bad scale sheet r a role is-role bound (as_values xs) k (row_instance sheet r a role honest plays ps places xs h) (row_one_each sheet r a role honest plays ps places xs h)
      (subst (λ (os : List (Option Atom)). Breaks scale sheet (done (played a os) (take bound role.steps)) k) same b.breaks)

  bad_row : (xs : List ℕ) (k : ℕ) → Allowed (counts sheet) ps xs → k < bound → BadStep scale sheet r k a (as_values xs) → Broken xs k
  bad_row xs k h within bad = record {
    values = as_values xs;
    is-values = row_fitted xs h;
    breaks = bad_break scale sheet r a role is-role bound (as_values xs) k within bad;
  }

  kinds_fit : map (λ p. p.kind) ps ≡ kinds (role_slots role.variables)
  kinds_fit = kinds_at ps (role_choices sheet r a 0 role.variables) places ∙ role_kinds sheet r a 0 role.variables

  -- Two strangers exchanged, a step stays bad.
  pub rows_blind : Referring sheet → Invariant (counts sheet) ps (λ xs. (k : ℕ) × Broken xs k)
  rows_blind referring = record {
    blind = λ k u w su sw xs h b.
        let (within, bad) = row_bad xs b.0 h b.1 in
        let there = (bad_step_blind scale sheet referring (counts sheet) (count_named sheet) (role_slots role.variables) ps kinds_fit r b.0 a).blind k u w su sw xs h bad in
        (b.0, bad_row (exchanged k u w ps xs) b.0 (allowed-exchanged (counts sheet) k u w ps xs su sw h) within there);
  }

  -- the values of a bad step, as a row
  bad_allowed : (os : List (Option Atom)) (k : ℕ) → BadStep scale sheet r k a os → Allowed (counts sheet) ps (numbers os)
  bad_allowed os k bad = let (inst, same) = bad_instance scale sheet r a role is-role bound os k bad in instance_row sheet r a role honest plays ps places os inst same

  bad_same : (os : List (Option Atom)) (k : ℕ) → BadStep scale sheet r k a os → as_values (numbers os) ≡ os
  bad_same os k bad = let (inst, same) = bad_instance scale sheet r a role is-role bound os k bad in instance_same sheet r a role honest plays ps places os inst same

  bad_breaking : (os : List (Option Atom)) (k : ℕ) → k < bound → BadStep scale sheet r k a os → Breaking (counts sheet) ps (λ xs. (j : ℕ) × Broken xs j) (numbers os)
  bad_breaking os k within bad = (
    bad_allowed os k bad,
    (k, bad_row (numbers os) k (bad_allowed os k bad) within (subst (BadStep scale sheet r k a) (sym (bad_same os k bad)) bad)),
  )

  row_numbers : (xs : List ℕ) → Allowed (counts sheet) ps xs → numbers (as_values xs) ≡ xs
  row_numbers xs h =
      numbers_filled (role_slots role.variables) xs
      (allowed_length sheet (role_choices sheet r a 0 role.variables) (kinds (role_slots role.variables)) xs (role_kinds sheet r a 0 role.variables)
      (allowed_in sheet ps (role_choices sheet r a 0 role.variables) places xs h))

  -- Where no row breaks it, no step below the bound is bad for this agent.
  pub none_bad : Empty (Breaking (counts sheet) ps (λ xs. (j : ℕ) × Broken xs j)) → (k : ℕ) (os : List (Option Atom)) → k < bound → BadStep scale sheet r k a os → ⊥
  none_bad none k os within bad = none.none (numbers os) (bad_breaking os k within bad)

  -- The least row that breaks it, at its first such step, is the least instance for this agent in which a step below the bound is bad, at its first one.
  pub least_bad : (xs : List ℕ) → Least (Breaking (counts sheet) ps (λ xs. (j : ℕ) × Broken xs j)) xs → (k : ℕ) (os : List (Option Atom)) → FirstOf (Broken xs) k → fitted (role_slots role.variables) xs ≡ Some os
      → LeastFor scale sheet r bound a k os
  least_bad xs l k os first is =
      let h : Allowed (counts sheet) ps xs = l.is.0 in
      let same : os ≡ as_values xs = same_Some os (as_values xs) (sym is ∙ row_fitted xs h) in
      let (within, bad) = row_bad xs k h first.is in
      rw same record {
        within = within;
        is = bad;
        first = λ j lt earlier. first.none-before j lt (bad_row xs j h (omega arith) earlier);
        least = λ j others lt bad-too less. l.least (numbers others) (bad_breaking others j lt bad-too) (subst (Less (numbers others)) (row_numbers xs h) less);
      }

pub step_suited : (scale : Scale) (sheet : Sheet) (a : ℕ) (slots : List (Option Kind)) (steps : List Step) (named : Counts) (places : List Place) → StepSuits sheet a slots steps named places
    → Invariant named places (λ row. (k : ℕ) × RowBreaks scale sheet a slots steps row k)
step_suited scale sheet a slots steps named places suits =
    rw (suits.are-slots, suits.are-steps, suits.are-named)
    (rows_blind scale sheet suits.number a suits.role suits.is-role suits.is-honest suits.plays suits.few suits.bound places suits.are-places suits.referring)
