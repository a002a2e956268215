-- While the needed event has not been logged, all that is heard, received and logged is positive. So the completion is not logged.
use Rattle.std.specs.Prelude.{◌≡◌, ℕ, ◌+◌, ◌<◌, ◌⊎◌, Contains, List, [], ◌∷◌, ◌++◌, length, Some, Option, slice_set}
use Rattle.std.specs.List.{slice_get}
use Rattle.std.proofs.Common.{sym, ap, subst, ◌∙◌, inl, inr, ⊎_elim, arith}
use Rattle.std.proofs.Math.Decide.{ℕ_discrete}
use Rattle.std.proofs.lemmas.Option.{none-some, same_Some, slice_get_within}
use Rattle.message.specs.declared.Atom.{Atom}
use Rattle.message.specs.Message.{Msg}
use Rattle.model.specs.Sheet.{Role, Sheet}
use Rattle.instances.specs.Actions.{Action, Event, does, receives, sends, signals}
use Rattle.instances.specs.Instances.{played}
use Rattle.instances.specs.Start.{Start}
use Rattle.medium.specs.Media.{Known, Meaning, Sound, Takes}
use Rattle.scale.specs.Scales.{Laws, Scale}
use Rattle.ranks.specs.Conditions.{Conditions, Maintains}
use Rattle.ranks.specs.Ranks.{ListsEvent, Positive, PositiveEvent, Valued}
use Rattle.ranks.proofs.Finding.{lists_event}
use Rattle.ranks.proofs.Generation.{generated}
use Rattle.rehearsals.specs.Boards.{Binds, Board, Call, New, Ready, Session, board_of, moved, started, sent, delivered, signalled, declined}
use Rattle.rehearsals.specs.Rehearsals.{EventsApart, Guarded, Precedes, Rehearsal, StandsBefore, opening, further}
use Rattle.rehearsals.proofs.Entries.{entry_added, entry_kept, entry_last, entry_set}
use Rattle.rehearsals.proofs.Sessions.{Begun, More, bound_begun, does_less, filled, filled_instance, filled_more, new_begun}

module _ (scale : Scale) (sheet : Sheet) where
  -- What holds of a step that a session has done.
  abbrev pub Past : List Event → Action → Type 0
  Past log (sends m) = Unit {0}
  Past log (receives m) = Positive scale sheet m
  Past log (signals e) = (i : ℕ) × (slice_get log i ≡ Some e)

  pub record Fair (log : List Event) (s : Session) (role : Role) : Type 0 where
    pub begun : Begun sheet s.role role s.agent s.variables
    pub past : (j : ℕ) → j < s.next → (d : Action) × (does role (played s.agent s.variables) j ≡ Some d) × Past log d

  abbrev pub AllFair : List Event → List Session → Type 0
  AllFair log sessions = (i : ℕ) (s : Session) (role : Role) → slice_get sessions i ≡ Some s → slice_get sheet.roles s.role ≡ Some role → Fair log s role

  -- Before the needed event is logged.
  pub record Safe (b : Board) (medium : Meaning) : Type 0 where
    pub on-sheet : medium.sheet ≡ sheet
    pub heard : (m : Msg) → Contains medium.heard m → Positive scale sheet m
    pub sessions : AllFair b.log b.sessions
    pub log : (i : ℕ) (e : Event) → slice_get b.log i ≡ Some e → PositiveEvent scale sheet e
    pub unneeded : (i : ℕ) (e : Event) → slice_get b.log i ≡ Some e → ListsEvent sheet.claim.needed e → ⊥

  -- Once the needed event is logged.
  pub record Told (log : List Event) : Type 0 where
    pub at : ℕ
    pub event : Event
    pub is-entry : slice_get log at ≡ Some event
    pub listed : ListsEvent sheet.claim.needed event
    pub precedes : Precedes sheet.claim.needed sheet.claim.completion log

  past_more : (log more : List Event) (d : Action) → Past log d → Past (log ++ more) d
  past_more log more (sends m) h = tt
  past_more log more (receives m) h = h
  past_more log more (signals e) h = (h.0, entry_kept log more h.0 e h.1)

  fair_more : (log more : List Event) (s : Session) (role : Role) → Fair log s role → Fair (log ++ more) s role
  fair_more log more s role f = record {
    begun = f.begun;
    past = λ j lt. let (d, is, p) = f.past j lt in (d, is, past_more log more d p);
  }

sends_signals : (m : Msg) (e : Event) → sends m ≡ signals e → ⊥
sends_signals m e p = cc

signals_same : {e f : Event} → signals e ≡ signals f → e ≡ f
signals_same p = cc

last_step : (j k : ℕ) → j < k + 1 → (j < k) ⊎ (j ≡ k)
last_step j k lt = go (ℕ_discrete j k)
  where
    go : Dec (j ≡ k) → (j < k) ⊎ (j ≡ k)
    go (yes e) = inr e
    go (no n) = inl (omega arith)

module _ (scale : Scale) (laws : Laws scale) (sheet : Sheet) (valued : Valued scale sheet) (conditions : Conditions scale sheet) where
  -- a session that has gone one step further
  fair_moved : (log : List Event) (s : Session) (role : Role) (vars : List (Option Atom)) (d : Action)
      → Fair scale sheet log s role → More s.variables vars → Begun sheet s.role role s.agent vars
      → does role (played s.agent vars) s.next ≡ Some d → Past scale sheet log d → Fair scale sheet log (moved s vars) role
  fair_moved log s role vars d f more b is p = record {
    begun = b;
    past = λ j lt. ⊎_elim
        (λ before. let (c, at, q) = f.past j before in (c, does_less role s.agent s.variables vars more j c at, q))
        (λ here. (d, ap (does role (played s.agent vars)) here ∙ is, p))
        (last_step j s.next lt);
  }

  -- what a session does, unless it is to signal the needed event, is positive
  maintained : (b : Board) (medium : Meaning) (i : ℕ) (s : Session) (d : Action) → Safe scale sheet b medium → Ready sheet b i s s.variables d
      → ((e : Event) → d ≡ signals e → ListsEvent sheet.claim.needed e → ⊥) → Maintains scale sheet d
  maintained b medium i s d safe n other =
      conditions.fourth s.role n.role n.is-role s.agent whole (filled_instance sheet s.role n.role s.agent s.variables f.begun) s.next d
      (now_does s.next d n.does-it)
      (λ j e le is listed. ⊎_elim (λ before. earlier j e before is listed) (λ here. other e (latest j e here is) listed) (last_step j s.next (omega (arith, le))))
      (λ j m lt is.
      let (c, at, q) = f.past j lt in
      let same : c ≡ receives m = same_Some _ _ (sym (now_does j c at) ∙ is) in
      subst (Past scale sheet b.log) same q)
    where
      f : Fair scale sheet b.log s n.role
      f = safe.sessions i s n.role n.is-session n.is-role

      whole : List (Option Atom)
      whole = filled n.role.variables s.variables

      now_does : (j : ℕ) (c : Action) → does n.role (played s.agent s.variables) j ≡ Some c → does n.role (played s.agent (filled n.role.variables s.variables)) j ≡ Some c
      now_does j c = does_less n.role s.agent s.variables (filled n.role.variables s.variables) (filled_more sheet s.role n.role s.agent s.variables f.begun) j c

      earlier : (j : ℕ) (e : Event) → j < s.next → does n.role (played s.agent (filled n.role.variables s.variables)) j ≡ Some (signals e) → ListsEvent sheet.claim.needed e → ⊥
      earlier j e before is listed =
          let (c, at, q) = f.past j before in
          let same : c ≡ signals e = same_Some _ _ (sym (now_does j c at) ∙ is) in
          let logged = subst (Past scale sheet b.log) same q in
          safe.unneeded logged.0 e logged.1 listed

      latest : (j : ℕ) (e : Event) → j ≡ s.next → does n.role (played s.agent (filled n.role.variables s.variables)) j ≡ Some (signals e) → d ≡ signals e
      latest j e here is = same_Some _ _ (sym (now_does s.next d n.does-it) ∙ ap (does n.role (played s.agent (filled n.role.variables s.variables))) (sym here) ∙ is)

  -- the session that moved or started, and the others
  others : (log : List Event) (sessions : List Session) (t : Session) (r : Role) → AllFair scale sheet log sessions
      → slice_get sheet.roles t.role ≡ Some r → Fair scale sheet log t r
      → (j : ℕ) (s : Session) (role : Role) → (s ≡ t) ⊎ (slice_get sessions j ≡ Some s) → slice_get sheet.roles s.role ≡ Some role → Fair scale sheet log s role
  others log sessions t r all is f j s role (inr old) at = all j s role old at
  others log sessions t r all is f j s role (inl e) at =
      let same : r ≡ role = same_Some r role (sym is ∙ ap (λ (x : Session). slice_get sheet.roles x.role) (sym e) ∙ at) in
      subst (λ (x : Session). Fair scale sheet log x role) (sym e) (subst (λ (x : Role). Fair scale sheet log t x) same f)

  module _ {X : Type 0} (meaning : X → Meaning) (sound : (x : X) → Sound (meaning x)) (apart : EventsApart sheet.claim) where
    offered_positive : (b : Board) (x : X) (m : Msg) → Safe scale sheet b (meaning x) → (meaning x).offered m → Positive scale sheet m
    offered_positive b x m safe o =
        generated scale laws sheet valued conditions.second
        (Known (meaning x).sheet (meaning x).heard)
        (λ k h. ⊎_elim (λ start. conditions.first k (subst (λ (s : Sheet). Start s k) safe.on-sheet start)) (λ old. safe.heard k old) h)
        ((sound x).made m o)

    safe_started : (b : Board) (x : X) (s : Session) → Safe scale sheet b (meaning x) → New sheet s
        → Safe scale sheet (board_of (b.sessions ++ (s ∷ [])) b.log) (meaning x)
    safe_started b x s safe n = record {
      on-sheet = safe.on-sheet;
      heard = safe.heard;
      sessions = λ j t role is at. others b.log b.sessions s n.role safe.sessions n.is-role fair j t role (⊎_elim (λ h. inl h.0) (λ h. inr h) (entry_last b.sessions j s t is)) at;
      log = safe.log;
      unneeded = safe.unneeded;
    }
      where
        fair : Fair scale sheet b.log s n.role
        fair = record { begun = new_begun sheet s n; past = λ j lt. absurd (let e = n.at-first in omega (arith, e, lt)) }

    safe_sent : (b : Board) (x y : X) (i : ℕ) (s : Session) (m : Msg) → Safe scale sheet b (meaning x) → Ready sheet b i s s.variables (sends m)
        → Takes (meaning x) (meaning y) m → Safe scale sheet (board_of (slice_set b.sessions i (moved s s.variables)) b.log) (meaning y)
    safe_sent b x y i s m safe n t = record {
      on-sheet = t.sheet ∙ safe.on-sheet;
      heard = λ k h. ⊎_elim (λ old. safe.heard k old) (λ e. subst (Positive scale sheet) (sym e) positive) (t.heard k h);
      sessions = λ j u role is at. others b.log b.sessions (moved s s.variables) n.role safe.sessions n.is-role fair j u role (entry_set b.sessions i j (moved s s.variables) u is) at;
      log = safe.log;
      unneeded = safe.unneeded;
    }
      where
        old : Fair scale sheet b.log s n.role
        old = safe.sessions i s n.role n.is-session n.is-role

        fair : Fair scale sheet b.log (moved s s.variables) n.role
        fair = fair_moved b.log s n.role s.variables (sends m) old (λ j v e. e) old.begun n.does-it tt

        positive : Positive scale sheet m
        positive = maintained b (meaning x) i s (sends m) safe n (λ e p listed. sends_signals m e p)

    safe_delivered : (b : Board) (x : X) (i : ℕ) (s : Session) (m : Msg) (vars : List (Option Atom)) → Safe scale sheet b (meaning x)
        → (n : Ready sheet b i s vars (receives m)) → Binds n.role s.next s.variables vars → (meaning x).offered m
        → Safe scale sheet (board_of (slice_set b.sessions i (moved s vars)) b.log) (meaning x)
    safe_delivered b x i s m vars safe n binds o = record {
      on-sheet = safe.on-sheet;
      heard = safe.heard;
      sessions = λ j u role is at. others b.log b.sessions (moved s vars) n.role safe.sessions n.is-role fair j u role (entry_set b.sessions i j (moved s vars) u is) at;
      log = safe.log;
      unneeded = safe.unneeded;
    }
      where
        old : Fair scale sheet b.log s n.role
        old = safe.sessions i s n.role n.is-session n.is-role

        fair : Fair scale sheet b.log (moved s vars) n.role
        fair = fair_moved b.log s n.role vars (receives m) old binds.kept (bound_begun sheet s.role n.role s.agent s.variables old.begun s.next vars binds) n.does-it (offered_positive b x m safe o)

    safe_signalled : (b : Board) (x : X) (i : ℕ) (s : Session) (e : Event) → Safe scale sheet b (meaning x) → Ready sheet b i s s.variables (signals e)
        → (ListsEvent sheet.claim.needed e → ⊥) → Safe scale sheet (board_of (slice_set b.sessions i (moved s s.variables)) (b.log ++ (e ∷ []))) (meaning x)
    safe_signalled b x i s e safe n other = record {
      on-sheet = safe.on-sheet;
      heard = safe.heard;
      sessions = λ j u role is at. others (b.log ++ (e ∷ [])) b.sessions (moved s s.variables) n.role
          (λ k t r h g. fair_more scale sheet b.log (e ∷ []) t r (safe.sessions k t r h g))
          n.is-role fair j u role (entry_set b.sessions i j (moved s s.variables) u is) at;
      log = λ j f is. ⊎_elim (λ h. subst (PositiveEvent scale sheet) (sym h.0) positive) (λ h. safe.log j f h) (entry_last b.log j e f is);
      unneeded = λ j f is listed. ⊎_elim (λ h. other (subst (ListsEvent sheet.claim.needed) h.0 listed)) (λ h. safe.unneeded j f h listed) (entry_last b.log j e f is);
    }
      where
        old : Fair scale sheet b.log s n.role
        old = safe.sessions i s n.role n.is-session n.is-role

        fair : Fair scale sheet (b.log ++ (e ∷ [])) (moved s s.variables) n.role
        fair = fair_moved (b.log ++ (e ∷ [])) s n.role s.variables (signals e) (fair_more scale sheet b.log (e ∷ []) s n.role old) (λ j v h. h) old.begun n.does-it (length b.log, entry_added b.log e)

        positive : PositiveEvent scale sheet e
        positive = maintained b (meaning x) i s (signals e) safe n (λ f p listed. other (subst (ListsEvent sheet.claim.needed) (sym (signals_same p)) listed))

    -- the first needed event
    told_first : (b : Board) (x : X) (e : Event) → Safe scale sheet b (meaning x) → ListsEvent sheet.claim.needed e → Told scale sheet (b.log ++ (e ∷ []))
    told_first b x e safe listed = record {
      at = length b.log;
      event = e;
      is-entry = entry_added b.log e;
      listed = listed;
      precedes = λ i f is completes. absurd (⊎_elim
          (λ h. apart f completes (subst (ListsEvent sheet.claim.needed) (sym h.0) listed))
          (λ h. conditions.third f completes (safe.log i f h))
          (entry_last b.log i e f is));
    }

    told_more : (log : List Event) (e : Event) → Told scale sheet log → Told scale sheet (log ++ (e ∷ []))
    told_more log e t = record {
      at = t.at;
      event = t.event;
      is-entry = entry_kept log (e ∷ []) t.at t.event t.is-entry;
      listed = t.listed;
      precedes = λ i f is completes. ⊎_elim (λ h. last i h.1) (λ h. earlier i (t.precedes i f h completes)) (entry_last log i e f is);
    }
      where
        last : (i : ℕ) → i ≡ length log → StandsBefore sheet.claim.needed (log ++ (e ∷ [])) i
        last i end = record {
          at = t.at;
          before = subst (λ (k : ℕ). t.at < k) (sym end) (slice_get_within log t.at t.event t.is-entry);
          event = t.event;
          is-entry = entry_kept log (e ∷ []) t.at t.event t.is-entry;
          listed = t.listed;
        }

        earlier : (i : ℕ) → StandsBefore sheet.claim.needed log i → StandsBefore sheet.claim.needed (log ++ (e ∷ [])) i
        earlier i h = record { at = h.at; before = h.before; event = h.event; is-entry = entry_kept log (e ∷ []) h.at h.event h.is-entry; listed = h.listed }

    signalled_either : (b : Board) (x : X) (i : ℕ) (s : Session) (e : Event) → Safe scale sheet b (meaning x) → Ready sheet b i s s.variables (signals e)
        → Dec (ListsEvent sheet.claim.needed e)
        → Safe scale sheet (board_of (slice_set b.sessions i (moved s s.variables)) (b.log ++ (e ∷ []))) (meaning x) ⊎ Told scale sheet (b.log ++ (e ∷ []))
    signalled_either b x i s e safe n (yes listed) = inr (told_first b x e safe listed)
    signalled_either b x i s e safe n (no other) = inl (safe_signalled b x i s e safe n other)

    -- each call keeps all positive, or logs the needed event for the first time
    call_safe : {b c : Board} {x y : X} → Call sheet meaning b x c y → Safe scale sheet b (meaning x) → Safe scale sheet c (meaning y) ⊎ Told scale sheet c.log
    call_safe {b} {x = x} (started s n) safe = inl (safe_started b x s safe n)
    call_safe {b} {x = x} {y = y} (sent i s m n t) safe = inl (safe_sent b x y i s m safe n t)
    call_safe {b} {x = x} (delivered i s m vars n h o) safe = inl (safe_delivered b x i s m vars safe n h o)
    call_safe {b} {x = x} (signalled i s e n) safe = signalled_either b x i s e safe n (lists_event e sheet.claim.needed)
    call_safe declined safe = inl safe

    call_told : {b c : Board} {x y : X} → Call sheet meaning b x c y → Told scale sheet b.log → Told scale sheet c.log
    call_told (started s n) t = t
    call_told (sent i s m n k) t = t
    call_told (delivered i s m vars n h o) t = t
    call_told {b} (signalled i s e n) t = told_more b.log e t
    call_told declined t = t

    rehearsed : {b : Board} {x : X} → Rehearsal sheet meaning b x → Safe scale sheet b (meaning x) ⊎ Told scale sheet b.log
    rehearsed {x = x} (opening is silent) = inl (record {
      on-sheet = is;
      heard = λ m h. absurd (none_heard m (subst (λ (l : List Msg). Contains l m) silent h));
      sessions = λ i s role e at. absurd (none-some s e);
      log = λ i e h. absurd (none-some e h);
      unneeded = λ i e h listed. none-some e h;
    })
      where
        none_heard : (m : Msg) → Contains [] m → ⊥
        none_heard m (k, h, e) = omega (arith, h)
    rehearsed (further before call) = ⊎_elim (call_safe call) (λ t. inr (call_told call t)) (rehearsed before)

    precedes : {b : Board} {x : X} → Rehearsal sheet meaning b x → Precedes sheet.claim.needed sheet.claim.completion b.log
    precedes r i e is completes = ⊎_elim (λ safe. absurd (conditions.third e completes (safe.log i e is))) (λ t. t.precedes i e is completes) (rehearsed r)

pub guarded : (scale : Scale) → Laws scale → {X : Type 0} (meaning : X → Meaning) → ((x : X) → Sound (meaning x)) → Guarded scale meaning
guarded scale laws meaning sound sheet valued conditions apart b x r = precedes scale laws sheet valued conditions meaning sound apart r
