-- Each call of a board is one call of a rehearsal.
use Rattle.std.specs.Prelude.{◌≡◌, ℕ, zero, suc, ◌≤◌, Bool, true, false, cond, List, [], ◌∷◌, ◌++◌, map, length, Some, None, Option, Result, Ok, Err, slice_set}
use Rattle.std.specs.List.{slice_get}
use Rattle.std.specs.Option.{option_map}
use Rattle.std.proofs.Common.{sym, refl, ap, subst, ◌∙◌, arith}
use Rattle.std.proofs.lemmas.List.{map-set, map_push}
use Rattle.std.proofs.lemmas.Option.{none-some, same_Some, slice_get-map}
use Rattle.instances.specs.Actions.{Action, Event, atoms_under, does, done_at, event, receives, sends, signals}
use Rattle.instances.specs.Instances.{played}
use Rattle.instances.specs.Substitution.{Values, both, message, value}
use Rattle.instances.proofs.Parts.{of-both, of_one}
use Rattle.sheet_laws.specs.Signals.{FormedStep, SignalsFormed}
use Rattle.medium.specs.Media.{Meaning, Takes}
use Rattle.message.specs.declared.Atom.{Atom}
use Rattle.message.specs.Message.{Msg}
use Rattle.model.specs.declared.node.Field.{Field}
use Rattle.model.specs.Sheet.{Role, Sheet, Step, receive, send, signal}
use Rattle.rehearsals.specs.Boards as boards
use Rattle.rehearsals.specs.Boards.{Call, Ready}
use Rattle.tables.specs.Entries.{entries, full}
use Rattle.board.specs.declared.board.Board.{Board}
use Rattle.board.specs.declared.records.Session.{Session}
use Rattle.board.specs.declared.refusal.Refusal.{Refusal}
use Rattle.board.specs.Boards.{Moves}
use Rattle.board.specs.Calls.{Apart, Called, CalledApart, declined, signalled}
use Rattle.board.specs.Deliveries.{Delivers, receiving, to_deliver}
use Rattle.board.specs.Records.{board_of, event_of, in_places, kept_event, session_of, there}
use Rattle.board.specs.Sends.{Sending, Sends, sending, to_send}
use Rattle.board.specs.Signals.{Signalling, Signals, log_signalled, sessions_signalled, signal_of, signalling, to_signal}
use Rattle.board.specs.Steps as steps
use Rattle.board.specs.Steps.{Read, WasRead, next_action, next_step, role_at, step_in}
use Rattle.board.proofs.Reading.{next_formed}

-- the role in which a session acts
acts : (sheet : Sheet) (s : Session) (d : Action) → next_action (Some sheet) s ≡ Some d
    → (role : Role) × (slice_get sheet.roles s.role ≡ Some role) × (does role (played s.agent s.values) s.next ≡ Some d)
acts sheet s d e = go (slice_get sheet.roles s.role) refl e
  where
    go : (o : Option Role) → slice_get sheet.roles s.role ≡ o → done_at (played s.agent s.values) (step_in o s.next) ≡ Some d
        → (role : Role) × (slice_get sheet.roles s.role ≡ Some role) × (does role (played s.agent s.values) s.next ≡ Some d)
    go None at h = absurd (none-some d h)
    go (Some role) at h = (role, at, h)

-- a session that is to act
pub ready : (sheet : Sheet) (b : Board) (i : ℕ) (s : Session) (d : Action) → slice_get (entries b.sessions) i ≡ Some s → next_action (Some sheet) s ≡ Some d
    → Ready sheet (board_of b) i (session_of s) s.values d
ready sheet b i s d at e =
    let (role, is-role, does-it) = acts sheet s d e in
    record { is-session = slice_get-map session_of (entries b.sessions) i ∙ ap (option_map session_of) at; role = role; is-role = is-role; does-it = does-it }

moves_board : (i : ℕ) (s : Session) (b c : Board) → Moves i s b c → board_of c ≡ boards.board_of (slice_set (board_of b).sessions i (session_of s)) (board_of b).log
moves_board i s b c m = λ j. boards.board_of ((ap (map session_of) m.sessions ∙ map-set session_of (entries b.sessions) i s) j) (map event_of (entries (m.log j)))

-- ---- send

sent_is : (o : Option Action) (m : Msg) → steps.sent o ≡ Some m → o ≡ Some (sends m)
sent_is None m e = absurd (none-some m e)
sent_is (Some (sends k)) m e = ap (λ x. Some (sends x)) (same_Some k m e)
sent_is (Some (receives k)) m e = absurd (none-some m e)
sent_is (Some (signals k)) m e = absurd (none-some m e)

pub ok_ok : {A E : Type 0} {x y : A} → ◌≡◌ {A = Result A E} (Ok x) (Ok y) → x ≡ y
ok_ok e = cc

pub err_ok : {A E X : Type 0} {x : A} {e : E} → ◌≡◌ {A = Result A E} (Err e) (Ok x) → X
err_ok p = absurd (cc)

to_send_is : (sheet : Option Sheet) (o : Option Session) (x : Sending) → to_send sheet o ≡ Ok x → (o ≡ Some x.session) × (steps.sent (next_action sheet x.session) ≡ Some x.message)
to_send_is sheet None x e = err_ok e
to_send_is sheet (Some s) x e = go (steps.sent (next_action sheet s)) refl e
  where
    go : (o : Option Msg) → steps.sent (next_action sheet s) ≡ o → sending s o ≡ Ok x → (Some s ≡ Some x.session) × (steps.sent (next_action sheet x.session) ≡ Some x.message)
    go None at h = err_ok h
    go (Some m) at h =
        let same : record { session = s; message = m } ≡ x = ok_ok h in
        (ap (λ (z : Sending). Some z.session) same, subst (λ (z : Sending). steps.sent (next_action sheet z.session) ≡ Some z.message) same at)

pub sends_called : {X : Type 0} (meaning : X → Meaning) (takes : X → Msg → X → Type 0) → ((x y : X) (m : Msg) → takes x m y → Takes (meaning x) (meaning y) m)
    → (i : ℕ) (b c : Board) (x y : X) (r : Result (List ℕ) Refusal) → Sends meaning takes i b x c y r → Called meaning b x c y
sends_called meaning takes stepped i b c x y (Err e) h sheet on =
    subst (λ (z : Board). Call sheet meaning (board_of b) x (board_of z) y) (sym h.1) (subst (λ z. Call sheet meaning (board_of b) x (board_of b) z) (sym h.2) boards.declined)
sends_called meaning takes stepped i b c x y (Ok u) h sheet on =
    let (s, is, reads, taken, moves) = h in
    let (at, sends-it) = to_send_is b.sheet.now (slice_get (entries b.sessions) i) s is in
    let next = sent_is (next_action (Some sheet) s.session) s.message (subst (λ (o : Option Sheet). steps.sent (next_action o s.session) ≡ Some s.message) on sends-it) in
    let r = ready sheet b i s.session (sends s.message) at next in
    subst (λ (z : boards.Board). Call sheet meaning (board_of b) x z y) (sym (moves_board i _ b c moves))
    (boards.sent i (session_of s.session) s.message r (stepped x y s.message taken))

-- ---- deliver

to_deliver_is : (sheet : Option Sheet) (o : Option Session) (s : Session) → to_deliver sheet o ≡ Ok s → o ≡ Some s
to_deliver_is sheet None s e = err_ok e
to_deliver_is sheet (Some z) s e = ap Some (go (next_step sheet z) e)
  where
    go : (o : Option Step) → receiving z o ≡ Ok s → z ≡ s
    go None h = err_ok h
    go (Some (send t)) h = err_ok h
    go (Some (receive t)) h = ok_ok h
    go (Some (signal t)) h = err_ok h

pub delivers_called : {X : Type 0} (meaning : X → Meaning) (i : ℕ) (bytes : List ℕ) (b c : Board) (x : X) (r : Result (Unit {0}) Refusal) → Delivers i (meaning x) bytes b c r → Called meaning b x c x
delivers_called meaning i bytes b c x (Err e) h sheet on = subst (λ (z : Board). Call sheet meaning (board_of b) x (board_of z) x) (sym h.1) boards.declined
delivers_called meaning i bytes b c x (Ok u) h sheet on =
    let (s, is, rest) = h in
    let (m, reads, offered, last) = rest in
    let (values, t, moves) = last in
    let at = to_deliver_is b.sheet.now (slice_get (entries b.sessions) i) s is in
    let r : Ready sheet (board_of b) i (session_of s) values (receives m) = record {
      is-session = slice_get-map session_of (entries b.sessions) i ∙ ap (option_map session_of) at;
      role = t.role;
      is-role = subst (λ (o : Option Sheet). role_at o s.role ≡ Some t.role) on t.is-role;
      does-it = t.does-it;
    } in
    subst (λ (z : boards.Board). Call sheet meaning (board_of b) x z x) (sym (moves_board i _ b c moves)) (boards.delivered i (session_of s) m values r t.binds offered)

-- ---- signal

both_length : {A : Type 0} (o : Option A) (os : Option (List A)) (ys : List A) → both (λ x xs. x ∷ xs) o os ≡ Some ys → (zs : List A) × (os ≡ Some zs) × (length ys ≡ suc (length zs))
both_length o os ys e = let (z, zs, first, rest, is) = of-both o os e in (zs, rest, ap length is)

atoms_many : (v : Values) (fs : List Field) (xs : List Atom) → atoms_under v fs ≡ Some xs → length xs ≡ length fs
atoms_many v [] xs e = ap length (sym (same_Some [] xs e))
atoms_many v (f ∷ fs) xs e = let (zs, rest, many) = both_length (value v f) (atoms_under v fs) xs e in many ∙ ap suc (atoms_many v fs zs rest)

there_in_places : (n : ℕ) (xs : List Atom) → length xs ≤ n → there (in_places n xs) ≡ xs
there_in_places zero [] h = refl
there_in_places zero (x ∷ xs) h = absurd (omega arith)
there_in_places (suc n) [] h = there_in_places n [] (omega arith)
there_in_places (suc n) (x ∷ xs) h = ap (λ l. x ∷ l) (there_in_places n xs (omega arith))

signalled_is : (o : Option Action) (e : Event) → steps.signalled o ≡ Some e → o ≡ Some (signals e)
signalled_is None e p = absurd (none-some e p)
signalled_is (Some (sends k)) e p = absurd (none-some e p)
signalled_is (Some (receives k)) e p = absurd (none-some e p)
signalled_is (Some (signals f)) e p = ap (λ x. Some (signals x)) (same_Some f e p)

sends_not : (k : Msg) (e : Event) → sends k ≡ signals e → ⊥
sends_not k e p = cc

receives_not : (k : Msg) (e : Event) → receives k ≡ signals e → ⊥
receives_not k e p = cc

signals_same : {e f : Event} → signals e ≡ signals f → e ≡ f
signals_same p = cc

-- the log keeps all of an event that a step signals
step_kept : (v : Values) (o : Option Step) (e : Event) → done_at v o ≡ Some (signals e) → ((s : Step) → o ≡ Some s → FormedStep s) → event_of (kept_event e) ≡ e
step_kept v None e p formed = absurd (none-some _ p)
step_kept v (Some (send t)) e p formed = absurd (let (k, is, same) = of_one {f = sends} (message v t) p in sends_not k e (sym same))
step_kept v (Some (receive t)) e p formed = absurd (let (k, is, same) = of_one {f = receives} (message v t) p in receives_not k e (sym same))
step_kept v (Some (signal s)) e p formed =
    let (f, is, same) = of_one {f = signals} (event v s) p in
    let (xs, atoms, event-is) = of_one {f = λ ys. record { word = s.word; atoms = ys }} (atoms_under v s.fields) is in
    let whole : e ≡ record { word = s.word; atoms = xs } = signals_same same ∙ event-is in
    let few : length xs ≤ 4 = omega (arith, atoms_many v s.fields xs atoms, (formed (signal s) refl).few) in
    subst (λ (z : Event). event_of (kept_event z) ≡ z) (sym whole) (λ j. record { word = s.word; atoms = there_in_places 4 xs few j })

pub same_board : (b c : Board) → entries c.sessions ≡ entries b.sessions → entries c.log ≡ entries b.log → board_of c ≡ board_of b
same_board b c p q = λ j. boards.board_of (map session_of (p j)) (map event_of (q j))

to_signal_is : (sheet : Option Sheet) (o : Option Session) (x : Signalling) → to_signal sheet o ≡ Ok x → (o ≡ Some x.session) × ((e : Event) × (steps.signalled (next_action sheet x.session) ≡ Some e) × (x.event ≡ kept_event e))
to_signal_is sheet None x p = err_ok p
to_signal_is sheet (Some s) x p = go (steps.signalled (next_action sheet s)) refl p
  where
    go : (o : Option Event) → steps.signalled (next_action sheet s) ≡ o → signalling s o ≡ Ok x → (Some s ≡ Some x.session) × ((e : Event) × (steps.signalled (next_action sheet x.session) ≡ Some e) × (x.event ≡ kept_event e))
    go None at h = err_ok h
    go (Some e) at h =
        let same : record { session = s; event = kept_event e } ≡ x = ok_ok h in
        (ap (λ (z : Signalling). Some z.session) same, (e, subst (λ (z : Signalling). steps.signalled (next_action sheet z.session) ≡ Some e) same at, ap (λ (z : Signalling). z.event) (sym same)))

pub signals_apart : SignalsFormed → (i : ℕ) (b c : Board) (r : Result (Unit {0}) Refusal) → Read b.sheet.now → Signals i b c r → CalledApart b c
signals_apart law i b c r read h sheet on = go (signal_of b i) refl
  where
    unchanged : entries c.sessions ≡ entries b.sessions → entries c.log ≡ entries b.log → Apart sheet (board_of b) (board_of c)
    unchanged p q = subst (Apart sheet (board_of b)) (sym (same_board b c p q)) declined

    logged : (x : Signalling) → signal_of b i ≡ Ok x → (t : Bool) → full b.log ≡ t
        → entries c.sessions ≡ cond t (entries b.sessions) (slice_set (entries b.sessions) i (steps.moved x.session x.session.values))
        → entries c.log ≡ cond t (entries b.log) (entries b.log ++ (x.event ∷ [])) → Apart sheet (board_of b) (board_of c)
    logged x is true fills p q = unchanged p q
    logged x is false fills p q =
        let (at, rest) = to_signal_is b.sheet.now (slice_get (entries b.sessions) i) x is in
        let (e, says, kept) = rest in
        let next : next_action (Some sheet) x.session ≡ Some (signals e) = subst (λ (o : Option Sheet). next_action o x.session ≡ Some (signals e)) on (signalled_is _ e says) in
        let was : WasRead (Some sheet) = subst Read on read in
        let whole = step_kept (played x.session.agent x.session.values) (next_step (Some sheet) x.session) e next (λ s is. next_formed law (Some sheet) was x.session s is) in
        let sessions = ap (map session_of) p ∙ map-set session_of (entries b.sessions) i (steps.moved x.session x.session.values) in
        let log = ap (map event_of) q ∙ map_push event_of (entries b.log) x.event ∙ ap (λ z. map event_of (entries b.log) ++ (z ∷ [])) (ap event_of kept ∙ whole) in
        subst (Apart sheet (board_of b)) (λ j. boards.board_of (sym sessions j) (sym log j)) (signalled i (session_of x.session) e (ready sheet b i x.session (signals e) at next))

    go : (q : Result Signalling Refusal) → signal_of b i ≡ q → Apart sheet (board_of b) (board_of c)
    go (Err e) is = unchanged (h.sessions ∙ ap (sessions_signalled b i) is) (h.log ∙ ap (log_signalled b i) is)
    go (Ok x) is = logged x is (full b.log) refl (h.sessions ∙ ap (sessions_signalled b i) is) (h.log ∙ ap (log_signalled b i) is)
