-- What a step shows, by whether what it sends, receives or signals is positive.
use Rattle.std.proofs.Common.{◌≡◌, ℕ, ◌+◌, ◌<◌, ◌≤◌, Bool, true, false, ◌↔◌, IsTrue, zero, suc, List, [], ◌∷◌, map, length, get_or, Some, None, Option, inl, inr, sym, refl, ap, subst, ◌∙◌, arith, below_more}
use Rattle.std.proofs.lemmas.Bool.{cases_lt, cases_order, false≢true}
use Rattle.std.proofs.lemmas.Option.{none-some, same_Some}
use Rattle.std.specs.Option.{option_map}
use Rattle.message.specs.Message.{Msg}
use Rattle.model.specs.declared.stored.Step as stored
use Rattle.model.specs.Stored.{step_of}
use Rattle.model.specs.Sheet.{Sheet, Signal, receive, send, signal}
use Rattle.model.specs.Trees.{Term}
use Rattle.instances.specs.Actions.{Action, Event, action, event, receives, sends, signals}
use Rattle.instances.specs.Substitution.{Values, message}
use Rattle.scale.specs.Scales.{Scale}
use Rattle.ranks.specs.Conditions.{Maintains}
use Rattle.ranks.specs.Ranks.{ListsEvent, Positive, PositiveEvent}
use Rattle.checker.specs.declared.steps.Found.{Found}
use Rattle.checker.specs.declared.steps.Found.TheVariants as found
use Rattle.checker.specs.Trying.{Breaks, Needed, Refused, Shows, Tells, done, received, sent}
use Rattle.checker.specs.Verdicts.{FirstOf}

module _ (scale : Scale) (sheet : Sheet) (v : Values) where
  -- nothing is shown where nothing is done
  nothing : (o : Option Action) → o ≡ None → Shows scale sheet o found.Kept
  nothing o e d is = absurd (none-some d (sym e ∙ is))

  only : (d : Action) → Maintains scale sheet d → (Needed sheet d → ⊥) → (Refused scale sheet d → ⊥) → (o : Option Action) → o ≡ Some d → Shows scale sheet o found.Kept
  only d m n r o e x is = let same : d ≡ x = same_Some d x (sym e ∙ is) in rw (← same) (m, n, r)

  sends-needed : (m : Msg) → Needed sheet (sends m) → ⊥
  sends-needed m n = let e : sends m ≡ signals n.0 = n.1 in cc

  sends-refused : (m : Msg) → Refused scale sheet (sends m) → ⊥
  sends-refused m r = let e : sends m ≡ receives r.0 = r.1 in cc

  receives-needed : (m : Msg) → Needed sheet (receives m) → ⊥
  receives-needed m n = let e : receives m ≡ signals n.0 = n.1 in cc

  signals-refused : (e : Event) → Refused scale sheet (signals e) → ⊥
  signals-refused e r = let q : signals e ≡ receives r.0 = r.1 in cc

  pub send_shows : (t : Term) (o : Option Bool) → Tells (Positive scale sheet) (message v t) o → Shows scale sheet (action v (send t)) (sent o)
  send_shows t None tells = nothing _ (ap (option_map sends) tells)
  send_shows t (Some true) (m, is, both) = only (sends m) (both.0 refl) (sends-needed m) (sends-refused m) _ (ap (option_map sends) is)
  send_shows t (Some false) (m, is, both) = (sends m, ap (option_map sends) is, sends-needed m, λ p. false≢true (both.1 p))

  pub receive_shows : (t : Term) (o : Option Bool) → Tells (Positive scale sheet) (message v t) o → Shows scale sheet (action v (receive t)) (received o)
  receive_shows t None tells = nothing _ (ap (option_map receives) tells)
  receive_shows t (Some true) (m, is, both) = only (receives m) tt (receives-needed m) refused _ (ap (option_map receives) is)
    where
      refused : Refused scale sheet (receives m) → ⊥
      refused (n, e, not) = let same : m ≡ n = cc in not (rw (← same) (both.0 refl))
  receive_shows t (Some false) (m, is, both) = (receives m, ap (option_map receives) is, inr (m, refl, λ p. false≢true (both.1 p)))

  pub needed_shows : (s : Signal) → (e : Event) × (event v s ≡ Some e) × ListsEvent sheet.claim.needed e → Shows scale sheet (action v (signal s)) found.Excused
  needed_shows s (e, is, lists) = (signals e, ap (option_map signals) is, inl (e, refl, lists))

  pub signal_shows : (s : Signal) (o : Option Bool) → ((e : Event) × (event v s ≡ Some e) × ListsEvent sheet.claim.needed e → ⊥) → Tells (PositiveEvent scale sheet) (event v s) o → Shows scale sheet (action v (signal s)) (sent o)
  signal_shows s None not tells = nothing _ (ap (option_map signals) tells)
  signal_shows s (Some b) not (e, is, both) = by b both
    where
      needed : Needed sheet (signals e) → ⊥
      needed (x, q, lists) = let same : e ≡ x = cc in not (x, is ∙ ap Some same, lists)

      by : (b : Bool) → (IsTrue b ↔ PositiveEvent scale sheet e) → Shows scale sheet (action v (signal s)) (sent (Some b))
      by true both = only (signals e) (both.0 refl) needed (signals-refused e) _ (ap (option_map signals) is)
      by false both = (signals e, ap (option_map signals) is, needed, λ p. false≢true (both.1 p))

-- ---- step after step

-- The steps before k keep to the condition.
pub record KeptSoFar (scale : Scale) (sheet : Sheet) (at : ℕ → Option Action) (k : ℕ) : Type 0 where
  pub each : (j : ℕ) → j < k → Shows scale sheet (at j) found.Kept

module _ (scale : Scale) (sheet : Sheet) (at : ℕ → Option Action) (k : ℕ) (kept : KeptSoFar scale sheet at k) where
  pub kept_more : Shows scale sheet (at k) found.Kept → KeptSoFar scale sheet at (k + 1)
  kept_more here = record { each = below_more (λ j. Shows scale sheet (at j) found.Kept) k kept.each here }

  none-before : (j : ℕ) → j < k → Breaks scale sheet at j → ⊥
  none-before j lt b = b.fails ((kept.each j lt b.action b.is-action).0)

  -- The first that breaks it is the first that is broken.
  pub broken_first : Shows scale sheet (at k) found.Broken → FirstOf (Breaks scale sheet at) k
  broken_first (d, is, needed, fails) = record {
    is = record {
      action = d;
      is-action = is;
      not-needed = λ j x lt is-x n.
          elim (cases_order j k) [
            | inl e ↦ needed (subst (Needed sheet) (same_Some x d (sym (ap at (sym e) ∙ is-x) ∙ is)) n)
            | inr (inl l) ↦ (kept.each j l x is-x).1 n
            | inr (inr l) ↦ absurd (omega arith)
          ];
      all-received = λ j x lt is-x r. (kept.each j lt x is-x).2 r;
      fails = fails;
    };
    none-before = none-before;
  }

  -- After one that ends the trial none breaks it.
  pub excused_none : Shows scale sheet (at k) found.Excused → (j : ℕ) → Breaks scale sheet at j → ⊥
  excused_none (d, is, inl needed) j b =
      elim (cases_lt j k) [ inl l ↦ none-before j l b | inr l ↦ b.not-needed k d (omega arith) is needed ]
  excused_none (d, is, inr refused) j b =
      elim (cases_order j k) [
        | inl e ↦ b.fails (excused-maintains d refused b.action (sym is ∙ ap at (sym e) ∙ b.is-action))
        | inr (inl l) ↦ none-before j l b
        | inr (inr l) ↦ b.all-received k d l is refused
      ]
    where
      excused-maintains : (d : Action) → Refused scale sheet d → (x : Action) → Some d ≡ Some x → Maintains scale sheet x
      excused-maintains d (m, e, not) x same = rw (← same_Some d x same) (rw e tt)

  -- Where there are no more steps none breaks it.
  pub kept_none : (past : (j : ℕ) → k ≤ j → at j ≡ None) → (j : ℕ) → Breaks scale sheet at j → ⊥
  kept_none past j b = elim (cases_lt j k) [ inl l ↦ none-before j l b | inr l ↦ none-some b.action (sym (past j l) ∙ b.is-action) ]

-- ---- steps as they are kept

pub done_item : (v : Values) (steps : List stored.Step) (k : ℕ) (s : stored.Step) → k < length steps → s ≡ get_or steps k s → done v (map step_of steps) k ≡ action v (step_of s)
done_item v [] k s lt is = absurd (omega arith)
done_item v (x ∷ xs) zero s lt is = ap (λ (u : stored.Step). action v (step_of u)) (sym is)
done_item v (x ∷ xs) (suc k) s lt is = done_item v xs k s (omega arith) is

pub done_past : (v : Values) (steps : List stored.Step) (k : ℕ) → length steps ≤ k → done v (map step_of steps) k ≡ None
done_past v [] k past = refl
done_past v (x ∷ xs) zero past = absurd (omega arith)
done_past v (x ∷ xs) (suc k) past = done_past v xs k (omega arith)

-- What the step of a number shows, as it is kept, it shows as one of the steps.
pub item_shows : (scale : Scale) (sheet : Sheet) (v : Values) (steps : List stored.Step) (k : ℕ) (s : stored.Step) (f : Found) → k < length steps → s ≡ get_or steps k s
    → Shows scale sheet (action v (step_of s)) f → Shows scale sheet (done v (map step_of steps) k) f
item_shows scale sheet v steps k s f lt is shows = subst (λ o. Shows scale sheet o f) (sym (done_item v steps k s lt is)) shows
