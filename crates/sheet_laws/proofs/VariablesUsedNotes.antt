-- What the notes on where variables first stand tell, and what their check tells.
use Rattle.std.proofs.Common.{◌≡◌, ℕ, zero, suc, Bool, true, false, cond, ◌&&◌, ◌||◌, List, [], ◌∷◌, ◌++◌, length, is_some, Some, None, Ok, Err, Option, Result, refl, ap, ◌∙◌, ⊎_elim, arith, length-append}
use Rattle.std.specs.List.{slice_get}
use Rattle.lexer.specs.declared.Fault.{Fault}
use Rattle.lexer.specs.Text.{WordAt}
use Rattle.model.specs.declared.node.Sort.{Sort}
use Rattle.model.specs.Sheet.{Step, Variable}
use Rattle.model.specs.Variables.{received, receives, stands_in_step}
use Rattle.terms.specs.declared.usages.First.{First}
use Rattle.terms.specs.declared.usages.Usage.{Usage}
use Rattle.terms.specs.Terms.{and_then}
use Rattle.terms.specs.Usages.{check_first, check_usages, first_at, note_all, noted, place_of, still_first}
use Rattle.draft.specs.Sections.{unused}
use Rattle.sheet_laws.specs.VariablesUsed.{VariableUsed, some}
use Rattle.sheet_laws.proofs.Finding.{nth-push}
use Rattle.sheet_laws.proofs.VariablesUsedWords.{or_push, says}

-- ---- one variable

-- A note tells whether the variable stands somewhere, and if it does, whether it is received.
abbrev Tells : Bool → Bool → Option First → Type 0
Tells stands is-received None = stands ≡ false
Tells stands is-received (Some f) = (stands ≡ true) × (is-received ≡ f.received)

abbrev Told : List Step → ℕ → Usage → Type 0
Told ss i u = Tells (some (stands_in_step i) ss) (received i ss) u.first

-- with one line more
tells_more : (stands is-received here receiving : Bool) (o : Option First) (p : Option ℕ) → here ≡ is_some p → Tells stands is-received o → Tells (stands || here) (cond stands is-received (here && receiving)) (still_first o (first_at p receiving))
tells_more stands is-received here receiving None None e t = grind arith
tells_more stands is-received here receiving None (Some p) e t = grind arith
tells_more stands is-received here receiving (Some f) p e t = grind arith

-- received with one step more
received_more : (i : ℕ) (ss : List Step) (x : Step) → received i (ss ++ (x ∷ [])) ≡ cond (some (stands_in_step i) ss) (received i ss) (stands_in_step i x && receives x)
received_more i [] x = grind arith
received_more i (s ∷ ss) x = grind (arith, received_more i ss x)

told_more : (ss : List Step) (x : Step) (i : ℕ) (u : Usage) (name : List ℕ) (ws : List WordAt) → stands_in_step i x ≡ says ws name → Told ss i u → Told (ss ++ (x ∷ [])) i (noted u name ws (receives x))
told_more ss x i u name ws e t = rw (or_push (stands_in_step i) (some (stands_in_step i)) refl (λ _ _. refl) ss x, received_more i ss x) (tells_more _ _ _ _ u.first (place_of ws name) e t)

-- ---- all variables

-- Each variable has a note, which tells of these steps.
pub record Noted (vs : List Variable) (us : List Usage) (ss : List Step) : Type 0 where
  pub each : length us ≡ length vs
  pub told : (i : ℕ) (u : Usage) → slice_get us i ≡ Some u → Told ss i u

module _ (ws : List WordAt) (receiving : Bool) where
  -- a line more makes no more notes
  as_many : (vs : List Variable) (us : List Usage) → length (note_all vs us ws receiving) ≡ length us
  as_many [] us = refl
  as_many (v ∷ vs) [] = refl
  as_many (v ∷ vs) (u ∷ us) = ap suc (as_many vs us)

  -- a note is that of its variable with the words of the line
  note-of : (vs : List Variable) (us : List Usage) (i : ℕ) (n : Usage) → length us ≡ length vs → slice_get (note_all vs us ws receiving) i ≡ Some n → (v : Variable) × (u : Usage) × (slice_get vs i ≡ Some v) × (slice_get us i ≡ Some u) × (noted u v.name ws receiving ≡ n)
  note-of [] [] i n e h = absurd (grind arith)
  note-of [] (u ∷ us) i n e h = absurd (omega arith)
  note-of (v ∷ vs) [] i n e h = absurd (omega arith)
  note-of (v ∷ vs) (u ∷ us) zero n e h = (v, u, refl, refl, cc)
  note-of (v ∷ vs) (u ∷ us) (suc i) n e h = note-of vs us i n (omega arith) h

-- a step more, in which each variable stands as its name does among the words
pub noted_step : {vs : List Variable} {us : List Usage} {ss : List Step} (x : Step) (ws : List WordAt) → Noted vs us ss → ((i : ℕ) (v : Variable) → slice_get vs i ≡ Some v → stands_in_step i x ≡ says ws v.name) → Noted vs (note_all vs us ws (receives x)) (ss ++ (x ∷ []))
noted_step {vs} {us} {ss} x ws h as_said = record {
  each = as_many ws (receives x) vs us ∙ h.each;
  told = λ i n e.
      let was = note-of ws (receives x) vs us i n h.each e in
      rw (← was.4) (told_more ss x i was.1 was.0.name ws (as_said i was.0 was.2) (h.told i was.1 was.3));
}

-- a variable more, before there are steps
pub noted-variable : {vs : List Variable} {us : List Usage} {ss : List Step} (v : Variable) (at : ℕ) → ss ≡ [] → Noted vs us ss → Noted (vs ++ (v ∷ [])) (us ++ (unused at ∷ [])) ss
noted-variable {vs} {us} {ss} v at none h = record {
  each = grind (arith, h.each, length-append);
  told = λ i u e. ⊎_elim (λ old. h.told i u old) (λ new. rw (← new, none) refl) (nth-push us (unused at) i u e);
}

-- ---- the check

-- two checks one after the other
both : (c d : Result (Unit {0}) Fault) → and_then c (λ _. d) ≡ Ok tt → (c ≡ Ok tt) × (d ≡ Ok tt)
both (Ok u) d e = (refl, e)
both (Err f) d e = grind arith

-- each variable's note is checked
checked-at : (vs : List Variable) (us : List Usage) → length us ≡ length vs → check_usages vs us ≡ Ok tt → (i : ℕ) (v : Variable) → slice_get vs i ≡ Some v → (u : Usage) × (slice_get us i ≡ Some u) × (check_first v.sort u.declared u.first ≡ Ok tt)
checked-at [] us e c i v h = absurd (grind arith)
checked-at (x ∷ vs) [] e c i v h = absurd (omega arith)
checked-at (x ∷ vs) (u ∷ us) e c zero v h = let passed = both (check_first x.sort u.declared u.first) (check_usages vs us) c in (u, refl, grind arith)
checked-at (x ∷ vs) (u ∷ us) e c (suc i) v h = checked-at vs us (omega arith) (both (check_first x.sort u.declared u.first) (check_usages vs us) c).1 i v h

-- a variable whose note passes is used
used : (ss : List Step) (i : ℕ) (sort : Sort) (declared : ℕ) (o : Option First) → Tells (some (stands_in_step i) ss) (received i ss) o → check_first sort declared o ≡ Ok tt → VariableUsed ss i sort
used ss i sort declared None t c = grind arith
used ss i sort declared (Some f) t c = grind arith

-- so all variables are used, if the notes pass
pub all-used : {vs : List Variable} {us : List Usage} {ss : List Step} → Noted vs us ss → check_usages vs us ≡ Ok tt → (i : ℕ) (v : Variable) → slice_get vs i ≡ Some v → VariableUsed ss i v.sort
all-used {vs} {us} {ss} h c i v e = let at = checked-at vs us h.each c i v e in used ss i v.sort at.0.declared at.0.first (h.told i at.0 at.1) at.2
