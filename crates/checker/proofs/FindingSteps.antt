-- Whether a role's step is bad in an instance is decided, so there is a first bad step and a least instance in which it is bad, or none.
use Rattle.std.proofs.Common.{◌≡◌, ℕ, ◌+◌, ◌<◌, true, ◌⊎◌, List, ◌∷◌, length, Some, None, Option, inl, inr, sym, refl, subst, ◌∙◌}
use Rattle.std.specs.List.{slice_get}
use Rattle.std.proofs.lemmas.Option.{none-some, same_Some, slice_get_within}
use Rattle.message.specs.declared.Atom.{Atom}
use Rattle.message.specs.Message.{Msg}
use Rattle.model.specs.Sheet.{Agent, Role, Sheet, Step, honest}
use Rattle.instances.specs.Actions.{Action, Event, does, done_at, receives, sends, signals}
use Rattle.instances.specs.Instances.{played}
use Rattle.scale.specs.Scales.{Scale}
use Rattle.search.specs.Rows.{Less}
use Rattle.ranks.specs.Conditions.{CompletionNot, KnowledgePositive, Maintains, SealsAgree}
use Rattle.ranks.specs.Ranks.{ListsEvent, Positive}
use Rattle.ranks.proofs.Finding.{dec_by, lists_event}
use Rattle.checker.specs.Rows.{role_slots}
use Rattle.checker.specs.Verdicts.{BadStep, FirstOf, LeastStep, numbers}
use Rattle.checker.proofs.BadSteps.{instance_fills}
use Rattle.checker.proofs.Deciding.{below_decided, both_decided, first_or_none, maintains_decided, not_decided, positive_decided, some_decided, stable, the_first, there_decided}
use Rattle.checker.proofs.Slots.{LeastRow, SomeRow, row_decided, some_row, the_least}
use Rattle.checker.proofs.DecidingInstances.{Sole, sole_decided}

-- ---- what a role does

signalled_decided : (P : Event → Type 0) → ((e : Event) → Dec (P e)) → (o : Option Action) → Dec ((e : Event) × (o ≡ Some (signals e)) × P e)
signalled_decided P decided None = no (λ x. none-some (signals x.0) x.1)
signalled_decided P decided (Some (sends m)) = no (λ x. let e : sends m ≡ signals x.0 = same_Some (sends m) (signals x.0) x.1 in cc)
signalled_decided P decided (Some (receives m)) = no (λ x. let e : receives m ≡ signals x.0 = same_Some (receives m) (signals x.0) x.1 in cc)
signalled_decided P decided (Some (signals f)) = dec_by (λ p. (f, refl, p)) back (decided f)
  where
    back : ((e : Event) × (Some (signals f) ≡ Some (signals e)) × P e) → P f
    back x =
        let e : signals f ≡ signals x.0 = same_Some (signals f) (signals x.0) x.1 in
        let same : x.0 ≡ f = cc in
        subst P same x.2

received_decided : (P : Msg → Type 0) → ((m : Msg) → Dec (P m)) → (o : Option Action) → Dec ((m : Msg) × (o ≡ Some (receives m)) × P m)
received_decided P decided None = no (λ x. none-some (receives x.0) x.1)
received_decided P decided (Some (sends m)) = no (λ x. let e : sends m ≡ receives x.0 = same_Some (sends m) (receives x.0) x.1 in cc)
received_decided P decided (Some (signals f)) = no (λ x. let e : signals f ≡ receives x.0 = same_Some (signals f) (receives x.0) x.1 in cc)
received_decided P decided (Some (receives m)) = dec_by (λ p. (m, refl, p)) back (decided m)
  where
    back : ((n : Msg) × (Some (receives m) ≡ Some (receives n)) × P n) → P m
    back x =
        let e : receives m ≡ receives x.0 = same_Some (receives m) (receives x.0) x.1 in
        let same : x.0 ≡ m = cc in
        subst P same x.2

module _ (scale : Scale) (sheet : Sheet) (action_at : ℕ → Option Action) (k : ℕ) where
  abbrev NotNeeded : Type 0
  NotNeeded = (j : ℕ) (e : Event) → j < k + 1 → action_at j ≡ Some (signals e) → ListsEvent sheet.claim.needed e → ⊥

  abbrev AllReceived : Type 0
  AllReceived = (j : ℕ) (m : Msg) → j < k → action_at j ≡ Some (receives m) → Positive scale sheet m

  abbrev NeededAt : ℕ → Type 0
  NeededAt j = (j < k + 1) × ((e : Event) × (action_at j ≡ Some (signals e)) × ListsEvent sheet.claim.needed e)

  needed_decided : Dec NotNeeded
  needed_decided =
      dec_by
      (λ (none : (j : ℕ) × NeededAt j → ⊥) j e lt is needed. none (j, (lt, (e, is, needed))))
      (λ none x. none x.0 x.1.1.0 x.1.0 x.1.1.1 x.1.1.2)
      (not_decided
      (some_decided NeededAt
      (λ j. both_decided (below_decided j (k + 1)) (signalled_decided (ListsEvent sheet.claim.needed) (λ e. lists_event e sheet.claim.needed) (action_at j)))
      (k + 1)
      (λ j g. g.0)))

  abbrev BadAt : ℕ → Type 0
  BadAt j = (j < k) × ((m : Msg) × (action_at j ≡ Some (receives m)) × (Positive scale sheet m → ⊥))

  all_received_decided : Dec AllReceived
  all_received_decided =
      dec_by
      (λ (none : (j : ℕ) × BadAt j → ⊥) j m lt is. stable (positive_decided scale sheet m) (λ bad. none (j, (lt, (m, is, bad)))))
      (λ all x. x.1.1.2 (all x.0 x.1.1.0 x.1.0 x.1.1.1))
      (not_decided
      (some_decided BadAt
      (λ j. both_decided (below_decided j k) (received_decided (λ m. Positive scale sheet m → ⊥) (λ m. not_decided (positive_decided scale sheet m)) (action_at j)))
      k
      (λ j g. g.0)))

-- ---- bad steps

module _ (scale : Scale) (sheet : Sheet) (r k a : ℕ) where
  -- the step of this role is bad for these values
  record Breaks (role : Role) (values : List (Option Atom)) : Type 0 where
    sole : Sole sheet r role a values
    fails : (d : Action) × (does role (played a values) k ≡ Some d) × (Maintains scale sheet d → ⊥)
    needed : NotNeeded scale sheet (does role (played a values)) k
    received : AllReceived scale sheet (does role (played a values)) k

  breaks_decided : (role : Role) (values : List (Option Atom)) → Dec (Breaks role values)
  breaks_decided role values =
      let at : ℕ → Option Action = does role (played a values) in
      dec_by
      (λ (p : Sole sheet r role a values × (((d : Action) × (does role (played a values) k ≡ Some d) × (Maintains scale sheet d → ⊥)) × (NotNeeded scale sheet (does role (played a values)) k × AllReceived scale sheet (does role (played a values)) k))).
      record { sole = p.0; fails = p.1.0; needed = p.1.1.0; received = p.1.1.1 })
      (λ b. (b.sole, (b.fails, (b.needed, b.received))))
      (both_decided (sole_decided sheet r a role values)
      (both_decided (there_decided (λ (d : Action). Maintains scale sheet d → ⊥) (λ d. not_decided (maintains_decided scale sheet d)) (at k))
      (both_decided (needed_decided scale sheet at k) (all_received_decided scale sheet at k))))

  bad_breaks : (role : Role) → slice_get sheet.roles r ≡ Some role → (values : List (Option Atom)) → BadStep scale sheet r k a values → Breaks role values
  bad_breaks role is values bad =
      subst (λ (x : Role). Breaks x values) (same_Some bad.role role (sym bad.is-role ∙ is))
      (record {
        sole = record { is-instance = bad.is-instance; one-each = bad.one-each };
        fails = (bad.action, bad.is-action, bad.fails);
        needed = bad.not-needed;
        received = bad.all-received;
      })

  breaks_bad : (role : Role) → slice_get sheet.roles r ≡ Some role → (values : List (Option Atom)) → Breaks role values → BadStep scale sheet r k a values
  breaks_bad role is values b = record {
    role = role;
    is-role = is;
    is-instance = b.sole.is-instance;
    one-each = b.sole.one-each;
    action = b.fails.0;
    is-action = b.fails.1;
    not-needed = b.needed;
    all-received = b.received;
    fails = b.fails.2;
  }

  step_row : SomeRow (BadStep scale sheet r k a)
  step_row = at (slice_get sheet.roles r) refl
    where
      at : (o : Option Role) → slice_get sheet.roles r ≡ o → SomeRow (BadStep scale sheet r k a)
      at None e = inr (λ values bad. none-some bad.role (sym e ∙ bad.is-role))
      at (Some role) e =
          some_row (BadStep scale sheet r k a) (role_slots role.variables) (Breaks role) (breaks_decided role)
          (λ values bad. let b = bad_breaks role e values bad in (instance_fills sheet r a role values b.sole.is-instance b.sole.one-each, b))
          (λ values fills b. breaks_bad role e values b)

-- ---- the first

honest_named : (agents : List Agent) (a : ℕ) → honest (slice_get agents a) ≡ true → a < length agents
honest_named agents a h = at (slice_get agents a) refl h
  where
    at : (o : Option Agent) → slice_get agents a ≡ o → honest o ≡ true → a < length agents
    at None e h = cc
    at (Some x) e h = slice_get_within agents a x e

done_named : (role : Role) (a k : ℕ) (values : List (Option Atom)) (d : Action) → does role (played a values) k ≡ Some d → k < length role.steps
done_named role a k values d h = at (slice_get role.steps k) refl h
  where
    at : (o : Option Step) → slice_get role.steps k ≡ o → done_at (played a values) o ≡ Some d → k < length role.steps
    at None e h = absurd (none-some d h)
    at (Some s) e h = slice_get_within role.steps k s e

module _ (scale : Scale) (sheet : Sheet) where
  abbrev BadAgent : ℕ → ℕ → ℕ → Type 0
  BadAgent r k a = (values : List (Option Atom)) × BadStep scale sheet r k a values

  abbrev BadPlace : ℕ → ℕ → Type 0
  BadPlace r k = (a : ℕ) × BadAgent r k a

  abbrev BadRole : ℕ → Type 0
  BadRole r = (k : ℕ) × BadPlace r k

  agent_decided : (r k a : ℕ) → Dec (BadAgent r k a)
  agent_decided r k a = row_decided (BadStep scale sheet r k a) (step_row scale sheet r k a)

  place_decided : (r k : ℕ) → Dec (BadPlace r k)
  place_decided r k = some_decided (BadAgent r k) (agent_decided r k) (length sheet.agents) (λ a b. honest_named sheet.agents a b.1.is-instance.is-honest)

  role_decided : (r : ℕ) → Dec (BadRole r)
  role_decided r = at (slice_get sheet.roles r) refl
    where
      within : (role : Role) → slice_get sheet.roles r ≡ Some role → (k : ℕ) → BadPlace r k → k < length role.steps
      within role e k b =
          let bad = b.1.1 in
          subst (λ (x : Role). k < length x.steps) (same_Some bad.role role (sym bad.is-role ∙ e)) (done_named bad.role b.0 k b.1.0 bad.action bad.is-action)

      at : (o : Option Role) → slice_get sheet.roles r ≡ o → Dec (BadRole r)
      at None e = no (λ b. none-some b.1.1.1.role (sym e ∙ b.1.1.1.is-role))
      at (Some role) e = some_decided (BadPlace r) (place_decided r) (length role.steps) (within role e)

  module _ (knowledge : KnowledgePositive scale sheet) (agree : SealsAgree scale sheet) (completion : CompletionNot scale sheet) where
    abbrev Least : Type 0
    Least = (r : ℕ) × (k : ℕ) × (a : ℕ) × (values : List (Option Atom)) × LeastStep scale sheet r k a values

    least-values : (r k a : ℕ) → FirstOf BadRole r → FirstOf (BadPlace r) k → FirstOf (BadAgent r k) a → ((values : List (Option Atom)) × LeastRow (BadStep scale sheet r k a) values) → Least
    least-values r k a first-r first-k first-a l = (
      r,
      k,
      a,
      l.0,
      record {
        knowledge = knowledge;
        agree = agree;
        completion = completion;
        is = l.1.is;
        first-role = λ q j b others lt bad. first-r.none-before q lt (j, (b, (others, bad)));
        first-step = λ j b others lt bad. first-k.none-before j lt (b, (others, bad));
        least = least;
      },
    )
      where
        least : (b : ℕ) (others : List (Option Atom)) → BadStep scale sheet r k b others → Less (b ∷ numbers others) (a ∷ numbers l.0) → ⊥
        least b others bad (inl lt) = first-a.none-before b lt (others, bad)
        least b others bad (inr less) = l.1.least others (subst (λ (x : ℕ). BadStep scale sheet r k x others) less.0 bad) less.1

    least-agent : (r k : ℕ) → FirstOf BadRole r → FirstOf (BadPlace r) k → ((a : ℕ) × FirstOf (BadAgent r k) a) → Least
    least-agent r k first-r first-k (a, first-a) = least-values r k a first-r first-k first-a (the_least (BadStep scale sheet r k a) (step_row scale sheet r k a) first-a.is.0 first-a.is.1)

    least-place : (r : ℕ) → FirstOf BadRole r → ((k : ℕ) × FirstOf (BadPlace r) k) → Least
    least-place r first-r (k, first-k) = least-agent r k first-r first-k (the_first (BadAgent r k) (agent_decided r k) first-k.is.0 first-k.is.1)

    least-role : (r : ℕ) → FirstOf BadRole r → Least
    least-role r first-r = least-place r first-r (the_first (BadPlace r) (place_decided r) first-r.is.0 first-r.is.1)

    -- There is a first bad step, with the least instance, or none.
    pub first_step : Least ⊎ ((r k a : ℕ) (values : List (Option Atom)) → BadStep scale sheet r k a values → ⊥)
    first_step = go (first_or_none BadRole role_decided (length sheet.roles) (λ r b. slice_get_within sheet.roles r b.1.1.1.role b.1.1.1.is-role))
      where
        go : ((r : ℕ) × FirstOf BadRole r) ⊎ ((r : ℕ) → BadRole r → ⊥) → Least ⊎ ((r k a : ℕ) (values : List (Option Atom)) → BadStep scale sheet r k a values → ⊥)
        go (inl f) = inl (least-role f.0 f.1)
        go (inr none) = inr (λ r k a values bad. none r (k, (a, (values, bad))))
