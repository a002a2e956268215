-- A call in which a session moves adds its next step to what it did, and nothing to what others did. Any other call adds nothing.
use Rattle.std.specs.Prelude.{◌≡◌, ℕ, zero, suc, ◌+◌, ◌<◌, Bool, cond, ◌==◌, Contains, List, [], ◌∷◌, ◌++◌, length, Some, None, Option, slice_set}
use Rattle.std.specs.List.{range_with_len, slice_get}
use Rattle.std.proofs.Common.{sym, refl, ap, subst, ◌∙◌, ⊎_elim, arith}
use Rattle.std.proofs.Math.Decide.{ℕ_discrete}
use Rattle.std.proofs.lemmas.Bool.{eq-eqb, ne_eqb}
use Rattle.std.proofs.lemmas.List.{append-nil, map_push}
use Rattle.std.proofs.lemmas.List.Elements.{Contains-append_cases, filter-append}
use Rattle.std.proofs.lemmas.Option.{none-some, same_Some, slice_get_past, slice_get_within}
use Rattle.message.specs.declared.Atom.{Atom}
use Rattle.model.specs.Sheet.{Role, Sheet, Step}
use Rattle.instances.specs.Actions.{Action, Event, does, done_at, receives, sends, signals}
use Rattle.instances.specs.Instances.{played}
use Rattle.instances.specs.Substitution.{Values}
use Rattle.medium.specs.Media.{Meaning}
use Rattle.rehearsals.specs.Boards.{Board, Call, New, Ready, Session, board_of, moved, started, sent, delivered, signalled, declined}
use Rattle.rehearsals.specs.Rehearsals.{Rehearsal, opening, further}
use Rattle.rehearsals.proofs.Entries.{entry_last}
use Rattle.rehearsals.proofs.Sessions.{More, does_less}
use Rattle.rehearsal_laws.specs.Deeds.{Deed, deed, deeds, deeds_of, done_in}
use Rattle.rehearsal_laws.specs.Order.{DidFirst, EachStepOnce, InOrder, NoneActsUnstarted, StepsInOrder}

-- ---- lists

module _ {A : Type 0} where
  set_here : (xs : List A) (i : ℕ) (y s : A) → slice_get (slice_set xs i y) i ≡ Some s → s ≡ y
  set_here [] i y s e = absurd (none-some s e)
  set_here (x ∷ xs) zero y s e = sym (same_Some y s e)
  set_here (x ∷ xs) (suc i) y s e = set_here xs i y s e

  set_elsewhere : (xs : List A) (i j : ℕ) (y : A) → (j ≡ i → ⊥) → slice_get (slice_set xs i y) j ≡ slice_get xs j
  set_elsewhere [] i j y n = refl
  set_elsewhere (x ∷ xs) zero zero y n = absurd (n refl)
  set_elsewhere (x ∷ xs) zero (suc j) y n = refl
  set_elsewhere (x ∷ xs) (suc i) zero y n = refl
  set_elsewhere (x ∷ xs) (suc i) (suc j) y n = set_elsewhere xs i j y (λ e. n (ap suc e))

  -- no entry is lost
  set_none : (xs : List A) (i j : ℕ) (y : A) → slice_get (slice_set xs i y) j ≡ None → slice_get xs j ≡ None
  set_none [] i j y e = refl
  set_none (x ∷ xs) zero zero y e = absurd (none-some y (sym e))
  set_none (x ∷ xs) zero (suc j) y e = e
  set_none (x ∷ xs) (suc i) zero y e = e
  set_none (x ∷ xs) (suc i) (suc j) y e = set_none xs i j y e

  added_none : (xs : List A) (j : ℕ) (y : A) → slice_get (xs ++ (y ∷ [])) j ≡ None → slice_get xs j ≡ None
  added_none [] j y e = refl
  added_none (x ∷ xs) zero y e = e
  added_none (x ∷ xs) (suc j) y e = added_none xs j y e

  alone : (x y : A) → Contains (x ∷ []) y → y ≡ x
  alone x y (zero, h, e) = sym e
  alone x y (suc k, h, e) = absurd (omega (arith, h))

  not_in_none : (x : A) → Contains [] x → ⊥
  not_in_none x (k, h, e) = omega (arith, h)

range_more : (a n : ℕ) → range_with_len a (suc n) ≡ range_with_len a n ++ ((a + n) ∷ [])
range_more a zero = let e : a ≡ a + 0 = omega arith in ap (λ (k : ℕ). k ∷ []) e
range_more a (suc n) = ap (λ l. a ∷ l) (range_more (a + 1) n ∙ ap (λ k. range_with_len (a + 1) n ++ (k ∷ [])) (omega arith))

range_last : (n : ℕ) → range_with_len 0 (n + 1) ≡ range_with_len 0 n ++ (n ∷ [])
range_last n = let next : n + 1 ≡ suc n = omega arith in ap (range_with_len 0) next ∙ range_more 0 n ∙ ap (λ k. range_with_len 0 n ++ (k ∷ [])) (omega arith)

-- ---- what one deed adds

module _ (ds : List Deed) (i : ℕ) (s : Session) (a : Action) where
  added_mine : deeds_of i (ds ++ (deed i s a ∷ [])) ≡ deeds_of i ds ++ (deed i s a ∷ [])
  added_mine =
      filter-append (λ (d : Deed). d.session == i) ds (deed i s a ∷ [])
      ∙ ap (λ (w : Bool). deeds_of i ds ++ cond w (deed i s a ∷ []) []) (eq-eqb i i refl)

  added_other : (j : ℕ) → (j ≡ i → ⊥) → deeds_of j (ds ++ (deed i s a ∷ [])) ≡ deeds_of j ds
  added_other j n =
      filter-append (λ (d : Deed). d.session == j) ds (deed i s a ∷ [])
      ∙ ap (λ (w : Bool). deeds_of j ds ++ cond w (deed i s a ∷ []) []) (ne_eqb i j (λ e. n (sym e)))
      ∙ append-nil (deeds_of j ds)

-- only at one of its steps a role does anything
does_within : (role : Role) (v : Values) (k : ℕ) (a : Action) → does role v k ≡ Some a → k < length role.steps
does_within role v k a is = go (slice_get role.steps k) refl is
  where
    go : (o : Option Step) → slice_get role.steps k ≡ o → done_at v o ≡ Some a → k < length role.steps
    go None e h = absurd (none-some a h)
    go (Some step) e h = slice_get_within role.steps k step e

module _ (sheet : Sheet) where
  -- a session that has gone one step further
  first_moved : (role : Role) (i : ℕ) (s : Session) (vars : List (Option Atom)) (a : Action) (did : List Deed)
      → DidFirst role s s.next did → More s.variables vars → does role (played s.agent vars) s.next ≡ Some a
      → DidFirst role (moved s vars) (s.next + 1) (did ++ (deed i s a ∷ []))
  first_moved role i s vars a did f more is = record {
    steps = map_push (λ (d : Deed). d.step) did (deed i s a) ∙ ap (λ (l : List ℕ). l ++ (s.next ∷ [])) f.steps ∙ sym (range_last s.next);
    actions = λ d h. ⊎_elim
        (λ old. does_less role s.agent s.variables vars more d.step d.action (f.actions d old))
        (λ new. subst (λ (c : Deed). does role (played s.agent vars) c.step ≡ Some c.action) (sym (alone (deed i s a) d new)) is)
        (Contains-append_cases did (deed i s a ∷ []) d h);
  }

  in_order_moved : (b : Board) (i : ℕ) (s : Session) (vars : List (Option Atom)) (a : Action) (did : List Deed)
      → InOrder sheet s did → More s.variables vars → Ready sheet b i s vars a
      → InOrder sheet (moved s vars) (did ++ (deed i s a ∷ []))
  in_order_moved b i s vars a did o more n = record {
    role = o.role;
    is-role = o.is-role;
    within = let h = does_within o.role (played s.agent vars) s.next a is in omega (arith, h);
    first = first_moved o.role i s vars a did o.first more is;
  }
    where
      is : does o.role (played s.agent vars) s.next ≡ Some a
      is = subst (λ (role : Role). does role (played s.agent vars) s.next ≡ Some a) (same_Some n.role o.role (sym n.is-role ∙ o.is-role)) n.does-it

  in_order_new : (s : Session) → New sheet s → InOrder sheet s []
  in_order_new s n = record {
    role = n.role;
    is-role = n.is-role;
    within = let e = n.at-first in omega (arith, e);
    first = record { steps = sym (ap (range_with_len 0) n.at-first); actions = λ d h. absurd (not_in_none d h) };
  }

  -- ---- calls

  record Kept (b : Board) (ds : List Deed) : Type 0 where
    pub each : (i : ℕ) (s : Session) → slice_get b.sessions i ≡ Some s → InOrder sheet s (deeds_of i ds)
    pub others : (i : ℕ) → slice_get b.sessions i ≡ None → deeds_of i ds ≡ []

  kept_started : (b : Board) (ds : List Deed) (s : Session) → Kept b ds → New sheet s → Kept (board_of (b.sessions ++ (s ∷ [])) b.log) ds
  kept_started b ds s k n = record {
    each = λ j t is. ⊎_elim (λ h. last j t h.0 h.1) (λ old. k.each j t old) (entry_last b.sessions j s t is);
    others = λ j none. k.others j (added_none b.sessions j s none);
  }
    where
      nothing : (j : ℕ) → j ≡ length b.sessions → deeds_of j ds ≡ []
      nothing j end = k.others j (ap (slice_get b.sessions) end ∙ slice_get_past b.sessions (length b.sessions) (omega arith))

      last : (j : ℕ) (t : Session) → t ≡ s → j ≡ length b.sessions → InOrder sheet t (deeds_of j ds)
      last j t same end =
          subst (λ (u : Session). InOrder sheet u (deeds_of j ds)) (sym same)
          (subst (λ (did : List Deed). InOrder sheet s did) (sym (nothing j end)) (in_order_new s n))

  kept_moved : (b : Board) (log : List Event) (ds : List Deed) (i : ℕ) (s : Session) (vars : List (Option Atom)) (a : Action)
      → Kept b ds → More s.variables vars → Ready sheet b i s vars a
      → Kept (board_of (slice_set b.sessions i (moved s vars)) log) (ds ++ (deed i s a ∷ []))
  kept_moved b log ds i s vars a k more n = record {
    each = λ j t is. either j t is (ℕ_discrete j i);
    others = λ j none. added_other ds i s a j (differs j (set_none b.sessions i j (moved s vars) none)) ∙ k.others j (set_none b.sessions i j (moved s vars) none);
  }
    where
      mine : InOrder sheet (moved s vars) (deeds_of i (ds ++ (deed i s a ∷ [])))
      mine =
          subst (λ (did : List Deed). InOrder sheet (moved s vars) did) (sym (added_mine ds i s a))
          (in_order_moved b i s vars a (deeds_of i ds) (k.each i s n.is-session) more n)

      either : (j : ℕ) (t : Session) → slice_get (slice_set b.sessions i (moved s vars)) j ≡ Some t → Dec (j ≡ i)
          → InOrder sheet t (deeds_of j (ds ++ (deed i s a ∷ [])))
      either j t is (yes e) =
          subst (λ (l : ℕ). InOrder sheet t (deeds_of l (ds ++ (deed i s a ∷ [])))) (sym e)
          (subst (λ (u : Session). InOrder sheet u (deeds_of i (ds ++ (deed i s a ∷ []))))
          (sym (set_here b.sessions i (moved s vars) t (ap (slice_get (slice_set b.sessions i (moved s vars))) (sym e) ∙ is)))
          mine)
      either j t is (no other) =
          subst (λ (did : List Deed). InOrder sheet t did) (sym (added_other ds i s a j other))
          (k.each j t (sym (set_elsewhere b.sessions i j (moved s vars) other) ∙ is))

      -- a session that moves is there
      differs : (j : ℕ) → slice_get b.sessions j ≡ None → j ≡ i → ⊥
      differs j none e = none-some s (sym none ∙ ap (slice_get b.sessions) e ∙ n.is-session)

  module _ {X : Type 0} (meaning : X → Meaning) where
    call_kept : {b c : Board} {x y : X} (call : Call sheet meaning b x c y) (ds : List Deed) → Kept b ds → Kept c (ds ++ done_in call)
    call_kept {b} (started s n) ds k = subst (Kept (board_of (b.sessions ++ (s ∷ [])) b.log)) (sym (append-nil ds)) (kept_started b ds s k n)
    call_kept {b} (sent i s m n t) ds k = kept_moved b b.log ds i s s.variables (sends m) k (λ j v e. e) n
    call_kept {b} (delivered i s m vars n h o) ds k = kept_moved b b.log ds i s vars (receives m) k h.kept n
    call_kept {b} (signalled i s e n) ds k = kept_moved b (b.log ++ (e ∷ [])) ds i s s.variables (signals e) k (λ j v p. p) n
    call_kept {b} declined ds k = subst (Kept b) (sym (append-nil ds)) k

    rehearsed : {b : Board} {x : X} (r : Rehearsal sheet meaning b x) → Kept b (deeds r)
    rehearsed (opening is silent) = record { each = λ i s e. absurd (none-some s e); others = λ i e. refl }
    rehearsed (further before call) = call_kept call (deeds before) (rehearsed before)

pub steps_in_order : {X : Type 0} (meaning : X → Meaning) → StepsInOrder meaning
steps_in_order meaning sheet b x r i s is = (rehearsed sheet meaning r).each i s is

pub each_step_once : {X : Type 0} (meaning : X → Meaning) → EachStepOnce meaning
each_step_once meaning sheet b x r i s role end =
    subst (λ (n : ℕ). DidFirst role s n (deeds_of i (deeds r))) end.no-more
    (subst (λ (q : Role). DidFirst q s s.next (deeds_of i (deeds r))) (same_Some o.role role (sym o.is-role ∙ end.is-role)) o.first)
  where
    o : InOrder sheet s (deeds_of i (deeds r))
    o = steps_in_order meaning sheet b x r i s end.is-session

pub none_acts_unstarted : {X : Type 0} (meaning : X → Meaning) → NoneActsUnstarted meaning
none_acts_unstarted meaning sheet b x r i none = (rehearsed sheet meaning r).others i none
