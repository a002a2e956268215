-- What a call does to a board of which the sheet, the sessions and the events are known.
use Rattle.std.specs.Prelude.{◌≡◌, ℕ, ◌<◌, ◌≤◌, false, List, [], ◌∷◌, ◌++◌, length, Some, Option, Result, Ok, Err, slice_set, min, nat_le}
use Rattle.std.specs.List.{slice_get}
use Rattle.std.proofs.Common.{sym, refl, ap, subst, ◌∙◌, inl, inr, arith}
use Rattle.std.proofs.lemmas.Bool.{cond-false, lt-leb}
use Rattle.std.proofs.lemmas.List.{length-set}
use Rattle.instances.specs.Actions as actions
use Rattle.medium.specs.Media.{Meaning}
use Rattle.message.specs.declared.Atom.{Atom}
use Rattle.message.specs.Message.{Msg, Reads}
use Rattle.message.proofs.Shapes.{same-tree}
use Rattle.model.specs.Sheet.{Sheet, receive}
use Rattle.model.specs.Trees.{Term}
use Rattle.tables.specs.Entries.{entries, full, table_of}
use Rattle.board.specs.declared.board.Board.{Board}
use Rattle.board.specs.declared.records.Event.{Event}
use Rattle.board.specs.declared.records.Session.{Session}
use Rattle.board.specs.declared.refusal.Refusal.{Refusal}
use Rattle.board.specs.Boards.{Moves}
use Rattle.board.specs.Deliveries.{Delivers, Turns, Undelivered, deliver_of, receiving, to_deliver}
use Rattle.board.specs.Records.{kept_event}
use Rattle.board.specs.Rehearsing.{declined_by, without}
use Rattle.board.specs.Sends.{Sending, Sends, Unsent, send_of, sending, to_send}
use Rattle.board.specs.Signals.{Signals, log_signalled, log_table_signalled, sessions_signalled, sessions_table_signalled, signal_answer, signal_of, signalling, to_signal}
use Rattle.board.specs.Starts.{Starts, sessions_started, sessions_table_started, start_answer, to_start}
use Rattle.board.specs.Steps.{moved, next_action, next_step, sent, signalled}
use Rattle.board.proofs.Calling.{ok_ok}

-- The board is on the sheet, with these sessions and these events, and in tables of two places or more.
pub record Stage (sheet : Sheet) (ss : List Session) (es : List Event) (b : Board) : Type 0 where
  pub on : b.sheet.now ≡ Some sheet
  pub sessions : entries b.sessions ≡ ss
  pub log : entries b.log ≡ es
  pub two-sessions : 2 ≤ length (table_of b.sessions)
  pub two-events : 2 ≤ length (table_of b.log)

-- An act is not declined and leads to another stage.
pub record Passes (sheet : Sheet) (ss : List Session) (es : List Event) (result : Result (Unit {0}) Refusal) (b : Board) : Type 0 where
  pub none-declined : declined_by result ≡ 0
  pub stage : Stage sheet ss es b

not_full : (n t : ℕ) → 2 ≤ t → n < 2 → nat_le (min t 4096) n ≡ false
not_full n t p q = lt-leb (min t 4096) n (omega arith)

long_as : {A : Type 0} (after before : List A) (i : ℕ) (x : A) → after ≡ slice_set before i x → 2 ≤ length before → 2 ≤ length after
long_as after before i x e h = omega (arith, h, ap length e, length-set before i x)

module _ (sheet : Sheet) (ss : List Session) (es : List Event) (b c : Board) (st : Stage sheet ss es b) where
  moved_on : (i : ℕ) (s : Session) → Moves i s b c → Stage sheet (slice_set ss i s) es c
  moved_on i s m = record {
    on = m.same.sheet ∙ st.on;
    sessions = m.sessions ∙ ap (λ (l : List Session). slice_set l i s) st.sessions;
    log = ap (λ l. entries l) m.log ∙ st.log;
    two-sessions = long_as (table_of c.sessions) (table_of b.sessions) i s m.sessions_table st.two-sessions;
    two-events = subst (λ l. 2 ≤ length (table_of l)) (sym m.log) st.two-events;
  }

  -- ---- start

  module _ (r a : ℕ) (numbers : List ℕ) (s : Session) (is : to_start r a numbers (Some sheet) ≡ Ok s) (few : length ss < 2) where
    begun : to_start r a numbers b.sheet.now ≡ Ok s
    begun = ap (to_start r a numbers) st.on ∙ is

    room : full b.sessions ≡ false
    room = not_full (length (entries b.sessions)) (length (table_of b.sessions)) st.two-sessions (subst (λ (l : List Session). length l < 2) (sym st.sessions) few)

    pub started : (result : Result ℕ Refusal) → Starts r a numbers b c result → Passes sheet (ss ++ (s ∷ [])) es (without result) c
    started result h = record {
      none-declined = ap (λ (o : Result ℕ Refusal). declined_by (without o)) (h.answer ∙ ap (start_answer b) begun ∙ cond-false (full b.sessions) _ _ room);
      stage = record {
        on = h.same.sheet ∙ st.on;
        sessions = h.sessions ∙ ap (sessions_started b) begun ∙ cond-false (full b.sessions) _ _ room ∙ ap (λ (l : List Session). l ++ (s ∷ [])) st.sessions;
        log = ap (λ l. entries l) h.log ∙ st.log;
        two-sessions =
            long_as (table_of c.sessions) (table_of b.sessions) (length (entries b.sessions)) s (h.sessions_table ∙ ap (sessions_table_started b) begun ∙ cond-false (full b.sessions) _ _ room)
            st.two-sessions;
        two-events = subst (λ l. 2 ≤ length (table_of l)) (sym h.log) st.two-events;
      };
    }

  -- ---- signal

  module _ (i : ℕ) (s : Session) (e : actions.Event) (at : slice_get ss i ≡ Some s) (next : signalled (next_action (Some sheet) s) ≡ Some e) (few : length es < 2) where
    is_signalled : signal_of b i ≡ Ok (record { session = s; event = kept_event e })
    is_signalled =
        ap (λ (o : Option Sheet). to_signal o (slice_get (entries b.sessions) i)) st.on
        ∙ ap (λ (l : List Session). to_signal (Some sheet) (slice_get l i)) st.sessions
        ∙ ap (to_signal (Some sheet)) at
        ∙ ap (signalling s) next

    log_room : full b.log ≡ false
    log_room = not_full (length (entries b.log)) (length (table_of b.log)) st.two-events (subst (λ (l : List Event). length l < 2) (sym st.log) few)

    pub signals_on : (result : Result (Unit {0}) Refusal) → Signals i b c result → Passes sheet (slice_set ss i (moved s s.values)) (es ++ (kept_event e ∷ [])) result c
    signals_on result h = record {
      none-declined = ap declined_by (h.answer ∙ ap (signal_answer b i) is_signalled ∙ cond-false (full b.log) _ _ log_room);
      stage = record {
        on = h.same.sheet ∙ st.on;
        sessions =
            h.sessions ∙ ap (sessions_signalled b i) is_signalled ∙ cond-false (full b.log) _ _ log_room ∙ ap (λ (l : List Session). slice_set l i (moved s s.values)) st.sessions;
        log = h.log ∙ ap (log_signalled b i) is_signalled ∙ cond-false (full b.log) _ _ log_room ∙ ap (λ (l : List Event). l ++ (kept_event e ∷ [])) st.log;
        two-sessions =
            long_as (table_of c.sessions) (table_of b.sessions) i (moved s s.values) (h.sessions_table ∙ ap (sessions_table_signalled b i) is_signalled ∙ cond-false (full b.log) _ _ log_room)
            st.two-sessions;
        two-events =
            long_as (table_of c.log) (table_of b.log) (length (entries b.log)) (kept_event e) (h.log_table ∙ ap (log_table_signalled b i) is_signalled ∙ cond-false (full b.log) _ _ log_room)
            st.two-events;
      };
    }

  -- ---- send

  module _ {X : Type 0} (meaning : X → Meaning) (takes : X → Msg → X → Type 0) (x y : X) (i : ℕ) (s : Session) (m : Msg) where
    module _ (at : slice_get ss i ≡ Some s) (next : sent (next_action (Some sheet) s) ≡ Some m) (space : (meaning x).space m) where
      is_sent : send_of b i ≡ Ok (record { session = s; message = m })
      is_sent =
          ap (λ (o : Option Sheet). to_send o (slice_get (entries b.sessions) i)) st.on
          ∙ ap (λ (l : List Session). to_send (Some sheet) (slice_get l i)) st.sessions
          ∙ ap (to_send (Some sheet)) at
          ∙ ap (sending s) next

      -- The message is taken, and the session moves on.
      pub sends_on : (result : Result (List ℕ) Refusal) → Sends meaning takes i b x c y result → takes x m y × Passes sheet (slice_set ss i (moved s s.values)) es (without result) c
      sends_on (Err e) h =
          let unsent : Unsent (Ok (record { session = s; message = m })) (meaning x) e = subst (λ (o : Result Sending Refusal). Unsent o (meaning x) e) is_sent h.0 in
          absurd (unsent.1 space)
      sends_on (Ok bytes) h =
          let (sending, is, reads, taken, moves) = h in
          let same : record { session = s; message = m } ≡ sending = ok_ok (sym is_sent ∙ is) in (
            subst (λ (z : Sending). takes x z.message y) (sym same) taken,
            record { none-declined = refl; stage = moved_on i (moved s s.values) (subst (λ (z : Sending). Moves i (moved z.session z.session.values) b c) (sym same) moves) },
          )

  -- ---- deliver

  module _ (medium : Meaning) (i : ℕ) (bytes : List ℕ) (s : Session) (t : Term) (m : Msg) (values : List (Option Atom)) where
    module _ (at : slice_get ss i ≡ Some s) (next : next_step (Some sheet) s ≡ Some (receive t)) (reads : Reads bytes m) (offered : medium.offered m)
        (turns : Turns (Some sheet) s values m) (once : (others : List (Option Atom)) → Turns (Some sheet) s others m → values ≡ others) where
      is_delivered : deliver_of b i ≡ Ok s
      is_delivered =
          ap (λ (o : Option Sheet). to_deliver o (slice_get (entries b.sessions) i)) st.on
          ∙ ap (λ (l : List Session). to_deliver (Some sheet) (slice_get l i)) st.sessions
          ∙ ap (to_deliver (Some sheet)) at
          ∙ ap (receiving s) next

      not_declined : (e : Refusal) → Undelivered (Ok s) (Some sheet) medium bytes e → ⊥
      not_declined e (inl h) = h.1 (m, reads)
      not_declined e (inr (inl h)) = h.1.1 (m, reads, offered)
      not_declined e (inr (inr h)) = h.1.1 m values reads turns

      -- The message is received with these values, and the session moves on.
      pub delivers_on : (result : Result (Unit {0}) Refusal) → Delivers i medium bytes b c result → Passes sheet (slice_set ss i (moved s values)) es result c
      delivers_on (Err e) h =
          absurd (not_declined e (subst (λ (o : Option Sheet). Undelivered (Ok s) o medium bytes e) st.on (subst (λ (o : Result Session Refusal). Undelivered o b.sheet.now medium bytes e) is_delivered h.0)))
      delivers_on (Ok done) h =
          let (z, is, rest) = h in
          let (n, reads-n, offered-n, last) = rest in
          let (others, turns-n, moves) = last in
          let same : s ≡ z = ok_ok (sym is_delivered ∙ is) in
          let one : n ≡ m = same-tree n m (reads-n.form ∙ sym reads.form) in
          let turned = subst (λ (k : Msg). Turns (Some sheet) s others k) one (subst (λ (q : Session). Turns (Some sheet) q others n) (sym same) (subst (λ (o : Option Sheet). Turns o z others n) st.on turns-n)) in
          record {
            none-declined = refl;
            stage = moved_on i (moved s values) (subst (λ (v : List (Option Atom)). Moves i (moved s v) b c) (sym (once others turned)) (subst (λ (q : Session). Moves i (moved q others) b c) (sym same) moves));
          }
