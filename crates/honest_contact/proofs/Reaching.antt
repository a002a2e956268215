-- The honest contact, act by act.
use Rattle.std.specs.Prelude.{◌≡◌, ℕ, zero, suc, ◌+◌, ◌<◌, ◌⊎◌, List, [], ◌∷◌, codes, Some, None, Option, Ok, slice_index_or}
use Rattle.std.specs.Borrow.{Bor}
use Rattle.std.proofs.Common.{sym, refl, ap, subst, ◌∙◌, inl, inr, arith}
use Rattle.std.proofs.lemmas.Option.{none-some, same_Some}
use Rattle.instances.specs.Actions as actions
use Rattle.instances.specs.Actions.{does, receives, sends, signals}
use Rattle.medium.specs.Media.{Meaning}
use Rattle.message.specs.declared.Atom.{Atom}
use Rattle.message.specs.declared.Atom.TheVariants.{Agent, Nonce, Text}
use Rattle.message.specs.declared.Kind.TheVariants as kind
use Rattle.message.specs.Message.{Msg, Reads, wire}
use Rattle.model.specs.declared.node.Field.TheVariants as field
use Rattle.model.specs.Trees.{Term, leaf}
use Rattle.model.specs.Trees as trees
use Rattle.rehearsals.specs.Boards.{Binds, Bound}
use Rattle.sheet.specs.Sheets.{reading}
use Rattle.board.specs.declared.acts.Act.{Act}
use Rattle.board.specs.declared.acts.Act.TheVariants as act
use Rattle.board.specs.declared.board.Board.{Board}
use Rattle.board.specs.declared.records.Session.{Session}
use Rattle.board.specs.Deliveries.{Turns, TurnsOnce}
use Rattle.board.specs.Records.{kept_event}
use Rattle.board.specs.Rehearsing.{Plays, declined_by}
use Rattle.board.specs.Starts.{to_start}
use Rattle.board.specs.Steps.{next_action, sent, signalled}
use Rattle.worked.specs.Silence.{G, bus, ground, silence}
use Rattle.worked.specs.Texts.{silence_lines, text_of}
use Rattle.worked.proofs.Readings.{silence_read}
use Rattle.honest_contact.specs.Contact.{Carries, Contacts, Prepared, Succeeds, answer, asking, exchanged, honest_acts, zeros}
use Rattle.honest_contact.proofs.Playing.{begins, rests}
use Rattle.honest_contact.proofs.Stages.{Stage, delivers_on, sends_on, signals_on, started}

-- ---- the two sessions, and what their variables stand for as they go on

abbrev Slots : Type 0
Slots = List (Option Atom)

abbrev bus_at_first : Slots
bus_at_first = None ∷ Some (Nonce 0) ∷ None ∷ None ∷ None ∷ []

abbrev bus_told : Slots
bus_told = Some (Text 0) ∷ Some (Nonce 0) ∷ None ∷ None ∷ None ∷ []

abbrev ground_at_first : Slots
ground_at_first = None ∷ None ∷ Some (Text 0) ∷ None ∷ None ∷ []

abbrev ground_asked : Slots
ground_asked = Some (Agent 1) ∷ Some (Nonce 0) ∷ Some (Text 0) ∷ None ∷ None ∷ []

abbrev on_bus : ℕ → Slots → Session
on_bus next values = record { role = 0; agent = 1; next = next; values = values }

abbrev on_ground : ℕ → Slots → Session
on_ground next values = record { role = 1; agent = 0; next = next; values = values }

abbrev told_event : actions.Event
told_event = record { word = codes "told"; atoms = Agent 0 ∷ Agent 1 ∷ Nonce 0 ∷ Text 0 ∷ [] }

abbrev set_event : actions.Event
set_event = record { word = codes "set"; atoms = Agent 1 ∷ Agent 0 ∷ Nonce 0 ∷ Text 0 ∷ [] }

-- ---- what each does next

bus_starts : to_start 0 1 zeros (Some silence) ≡ Ok (on_bus 0 bus_at_first)
bus_starts = refl

ground_starts : to_start 1 0 zeros (Some silence) ≡ Ok (on_ground 0 ground_at_first)
ground_starts = refl

bus_asks : sent (next_action (Some silence) (on_bus 0 bus_at_first)) ≡ Some asking
bus_asks = refl

ground_tells : signalled (next_action (Some silence) (on_ground 1 ground_asked)) ≡ Some told_event
ground_tells = refl

ground_answers : sent (next_action (Some silence) (on_ground 2 ground_asked)) ≡ Some answer
ground_answers = refl

bus_sets : signalled (next_action (Some silence) (on_bus 2 bus_told)) ≡ Some set_event
bus_sets = refl

-- what each is to receive
abbrev what_ground_hears : Term
what_ground_hears = trees.pair (leaf (field.Variable 0)) (leaf (field.Variable 1))

abbrev what_bus_hears : Term
what_bus_hears = trees.seal field.Player G (trees.pair (leaf G) (trees.pair (leaf (field.Variable 1)) (leaf (field.Variable 0))))

asking_reads : Reads (wire asking) asking
asking_reads = record { fits = (omega arith, omega arith); form = refl; short = omega arith }

answer_reads : Reads (wire answer) answer
answer_reads = record { fits = ((omega arith, omega arith), (omega arith, (omega arith, omega arith))); form = refl; short = omega arith }

-- ---- what is received

ground_bound : Binds ground 0 ground_at_first ground_asked
ground_bound = record { kept = kept; bound = bound }
  where
    kept : (i : ℕ) (x : Atom) → slice_index_or ground_at_first i None ≡ Some x → slice_index_or ground_asked i None ≡ Some x
    kept zero x e = absurd (none-some x e)
    kept (suc zero) x e = absurd (none-some x e)
    kept (suc (suc i)) x e = e

    bound : (i : ℕ) (x : Atom) → slice_index_or ground_asked i None ≡ Some x → (slice_index_or ground_at_first i None ≡ Some x) ⊎ Bound ground 0 i x
    bound zero x e = inr (record {
      term = _;
      is-received = refl;
      stands = refl;
      variable = _;
      is-variable = refl;
      kind = kind.Agent;
      not-fresh = refl;
      of-kind = (1, omega arith, sym (same_Some (Agent 1) x e));
    })
    bound (suc zero) x e = inr (record {
      term = _;
      is-received = refl;
      stands = refl;
      variable = _;
      is-variable = refl;
      kind = kind.Nonce;
      not-fresh = refl;
      of-kind = (0, omega arith, sym (same_Some (Nonce 0) x e));
    })
    bound (suc (suc i)) x e = inl e

bus_bound : Binds bus 1 bus_at_first bus_told
bus_bound = record { kept = kept; bound = bound }
  where
    kept : (i : ℕ) (x : Atom) → slice_index_or bus_at_first i None ≡ Some x → slice_index_or bus_told i None ≡ Some x
    kept zero x e = absurd (none-some x e)
    kept (suc i) x e = e

    bound : (i : ℕ) (x : Atom) → slice_index_or bus_told i None ≡ Some x → (slice_index_or bus_at_first i None ≡ Some x) ⊎ Bound bus 1 i x
    bound zero x e = inr (record {
      term = _;
      is-received = refl;
      stands = refl;
      variable = _;
      is-variable = refl;
      kind = kind.Text;
      not-fresh = refl;
      of-kind = (0, omega arith, sym (same_Some (Text 0) x e));
    })
    bound (suc i) x e = inl e

ground_turns : Turns (Some silence) (on_ground 0 ground_at_first) ground_asked asking
ground_turns = record { role = ground; is-role = refl; slots = refl; binds = ground_bound; does-it = refl }

bus_turns : Turns (Some silence) (on_bus 1 bus_at_first) bus_told answer
bus_turns = record { role = bus; is-role = refl; slots = refl; binds = bus_bound; does-it = refl }

was_read : (text : List ℕ) × (reading text ≡ Ok silence)
was_read = (text_of silence_lines, silence_read)

-- No other values do.
module _ (law : TurnsOnce) where
  ground_once : (others : Slots) → Turns (Some silence) (on_ground 0 ground_at_first) others asking → ground_asked ≡ others
  ground_once others t = law was_read.0 silence was_read.1 (on_ground 0 ground_at_first) asking asking_reads ground_asked others ground_turns t

  bus_once : (others : Slots) → Turns (Some silence) (on_bus 1 bus_at_first) others answer → bus_told ≡ others
  bus_once others t = law was_read.0 silence was_read.1 (on_bus 1 bus_at_first) answer answer_reads bus_told others bus_turns t

-- ---- act by act

first_fits : 0 < 2
first_fits = omega arith

second_fits : 1 < 2
second_fits = omega arith

-- the stage at the end, where no call was declined
abbrev Ends : ℕ → Board → Type 0
Ends n c = (n ≡ 0) × Stage silence (on_bus 3 bus_told ∷ on_ground 3 ground_asked ∷ []) (kept_event told_event ∷ kept_event set_event ∷ []) c

-- the calls before the end, of which the first was not declined
ends_later : (n first later : ℕ) (c : Board) → n ≡ first + later → first ≡ 0 → Ends later c → Ends n c
ends_later n first later c e f h = (omega (arith, e, f, h.0), h.1)

module _ {X : Type 0} (meaning : X → Meaning) (takes : X → Msg → X → Type 0) (law : TurnsOnce) (c : Board) (z : X) where
  at_end : (b : Board) (x : X) (n : ℕ) → Stage silence (on_bus 3 bus_told ∷ on_ground 3 ground_asked ∷ []) (kept_event told_event ∷ kept_event set_event ∷ []) b → Plays meaning takes b x [] c z n → Ends n c
  at_end b x n st plays =
      let end = rests meaning takes b c x z [] n plays refl in
      (end.none-declined, subst (Stage silence (on_bus 3 bus_told ∷ on_ground 3 ground_asked ∷ []) (kept_event told_event ∷ kept_event set_event ∷ [])) (sym end.board) st)

  -- B signals the completion
  setting : (b : Board) (x : X) (n : ℕ) → Stage silence (on_bus 2 bus_told ∷ on_ground 3 ground_asked ∷ []) (kept_event told_event ∷ []) b → Plays meaning takes b x (act.Signal 0 ∷ []) c z n → Ends n c
  setting b x n st plays =
      let f = begins meaning takes b x c z n (act.Signal 0 ∷ []) (act.Signal 0) [] plays refl in
      let s = signals_on silence (on_bus 2 bus_told ∷ on_ground 3 ground_asked ∷ []) (kept_event told_event ∷ []) b f.board st 0 (on_bus 2 bus_told) set_event refl bus_sets second_fits f.result f.does.0 in
      ends_later n (declined_by f.result) f.later c f.count s.none-declined (at_end f.board f.medium f.later s.stage f.goes-on)

  module _ (q : Bor (List ℕ)) (is-q : q.now ≡ wire answer) where
    abbrev from_hearing : List Act
    from_hearing = act.Deliver 0 q ∷ act.Signal 0 ∷ []

    -- B receives the answer
    hearing : (b : Board) (x : X) (n : ℕ) → Stage silence (on_bus 1 bus_at_first ∷ on_ground 3 ground_asked ∷ []) (kept_event told_event ∷ []) b → (meaning x).offered answer
        → Plays meaning takes b x from_hearing c z n → Ends n c
    hearing b x n st offered plays =
        let f = begins meaning takes b x c z n from_hearing (act.Deliver 0 q) (act.Signal 0 ∷ []) plays refl in
        let s =
        delivers_on silence (on_bus 1 bus_at_first ∷ on_ground 3 ground_asked ∷ []) (kept_event told_event ∷ []) b f.board st (meaning x) 0 q.now (on_bus 1 bus_at_first) what_bus_hears answer bus_told refl refl
        (subst (λ (l : List ℕ). Reads l answer) (sym is-q) answer_reads) offered bus_turns (bus_once law) f.result f.does.0 in
        ends_later n (declined_by f.result) f.later c f.count s.none-declined (setting f.board f.medium f.later s.stage f.goes-on)

    abbrev from_answering : List Act
    from_answering = act.Send 1 ∷ from_hearing

    -- G answers
    answering : (b : Board) (x : X) (n : ℕ) → Stage silence (on_bus 1 bus_at_first ∷ on_ground 2 ground_asked ∷ []) (kept_event told_event ∷ []) b → Carries meaning takes x (answer ∷ [])
        → Plays meaning takes b x from_answering c z n → Ends n c
    unfolding Carries
    answering b x n st carries plays =
        let f = begins meaning takes b x c z n from_answering (act.Send 1) from_hearing plays refl in
        let (r, is, h) = f.does in
        let (taken, s) = sends_on silence (on_bus 1 bus_at_first ∷ on_ground 2 ground_asked ∷ []) (kept_event told_event ∷ []) b f.board st meaning takes x f.medium 1 (on_ground 2 ground_asked) answer refl ground_answers carries.0 r h in
        ends_later n (declined_by f.result) f.later c f.count (ap declined_by is ∙ s.none-declined) (hearing f.board f.medium f.later s.stage (carries.1 f.medium taken).0 f.goes-on)

    abbrev from_telling : List Act
    from_telling = act.Signal 1 ∷ from_answering

    -- G signals the needed event
    telling : (b : Board) (x : X) (n : ℕ) → Stage silence (on_bus 1 bus_at_first ∷ on_ground 1 ground_asked ∷ []) [] b → Carries meaning takes x (answer ∷ [])
        → Plays meaning takes b x from_telling c z n → Ends n c
    telling b x n st carries plays =
        let f = begins meaning takes b x c z n from_telling (act.Signal 1) from_answering plays refl in
        let s = signals_on silence (on_bus 1 bus_at_first ∷ on_ground 1 ground_asked ∷ []) [] b f.board st 1 (on_ground 1 ground_asked) told_event refl ground_tells first_fits f.result f.does.0 in
        ends_later n (declined_by f.result) f.later c f.count s.none-declined
        (answering f.board f.medium f.later s.stage (subst (λ m. Carries meaning takes m (answer ∷ [])) (sym f.does.1) carries) f.goes-on)

    module _ (p : Bor (List ℕ)) (is-p : p.now ≡ wire asking) where
      abbrev from_receiving : List Act
      from_receiving = act.Deliver 1 p ∷ from_telling

      -- G is asked
      receiving : (b : Board) (x : X) (n : ℕ) → Stage silence (on_bus 1 bus_at_first ∷ on_ground 0 ground_at_first ∷ []) [] b → (meaning x).offered asking → Carries meaning takes x (answer ∷ [])
          → Plays meaning takes b x from_receiving c z n → Ends n c
      receiving b x n st offered carries plays =
          let f = begins meaning takes b x c z n from_receiving (act.Deliver 1 p) from_telling plays refl in
          let s =
          delivers_on silence (on_bus 1 bus_at_first ∷ on_ground 0 ground_at_first ∷ []) [] b f.board st (meaning x) 1 p.now (on_ground 0 ground_at_first) what_ground_hears asking ground_asked refl refl
          (subst (λ (l : List ℕ). Reads l asking) (sym is-p) asking_reads) offered ground_turns (ground_once law) f.result f.does.0 in
          ends_later n (declined_by f.result) f.later c f.count s.none-declined
          (telling f.board f.medium f.later s.stage (subst (λ m. Carries meaning takes m (answer ∷ [])) (sym f.does.1) carries) f.goes-on)

      abbrev from_sending : List Act
      from_sending = act.Send 0 ∷ from_receiving

      -- B asks
      sending : (b : Board) (x : X) (n : ℕ) → Stage silence (on_bus 0 bus_at_first ∷ on_ground 0 ground_at_first ∷ []) [] b → Carries meaning takes x exchanged
          → Plays meaning takes b x from_sending c z n → Ends n c
      unfolding Carries
      sending b x n st carries plays =
          let f = begins meaning takes b x c z n from_sending (act.Send 0) from_receiving plays refl in
          let (r, is, h) = f.does in
          let (taken, s) = sends_on silence (on_bus 0 bus_at_first ∷ on_ground 0 ground_at_first ∷ []) [] b f.board st meaning takes x f.medium 0 (on_bus 0 bus_at_first) asking refl bus_asks carries.0 r h in
          let more = carries.1 f.medium taken in
          ends_later n (declined_by f.result) f.later c f.count (ap declined_by is ∙ s.none-declined) (receiving f.board f.medium f.later s.stage more.0 more.1 f.goes-on)

      abbrev from_second : List Act
      from_second = act.Start 1 0 zeros ∷ from_sending

      -- G starts
      second_started : (b : Board) (x : X) (n : ℕ) → Stage silence (on_bus 0 bus_at_first ∷ []) [] b → Carries meaning takes x exchanged → Plays meaning takes b x from_second c z n → Ends n c
      second_started b x n st carries plays =
          let f = begins meaning takes b x c z n from_second (act.Start 1 0 zeros) from_sending plays refl in
          let (r, is, h, same) = f.does in
          let s = started silence (on_bus 0 bus_at_first ∷ []) [] b f.board st 1 0 zeros (on_ground 0 ground_at_first) ground_starts second_fits r h in
          ends_later n (declined_by f.result) f.later c f.count (ap declined_by is ∙ s.none-declined)
          (sending f.board f.medium f.later s.stage (subst (λ m. Carries meaning takes m exchanged) (sym same) carries) f.goes-on)

      -- B starts
      first_started : (b : Board) (x : X) (n : ℕ) → Stage silence [] [] b → Carries meaning takes x exchanged → Plays meaning takes b x (honest_acts p q) c z n → Ends n c
      first_started b x n st carries plays =
          let f = begins meaning takes b x c z n (honest_acts p q) (act.Start 0 1 zeros) from_second plays refl in
          let (r, is, h, same) = f.does in
          let s = started silence [] [] b f.board st 0 1 zeros (on_bus 0 bus_at_first) bus_starts first_fits r h in
          ends_later n (declined_by f.result) f.later c f.count (ap declined_by is ∙ s.none-declined)
          (second_started f.board f.medium f.later s.stage (subst (λ m. Carries meaning takes m exchanged) (sym same) carries) f.goes-on)

pub contact_succeeds : {X : Type 0} (meaning : X → Meaning) (takes : X → Msg → X → Type 0) → TurnsOnce
    → (b c : Board) (x z : X) (n : ℕ) → Prepared b → Carries meaning takes x exchanged → Contacts meaning takes b x c z n → Succeeds n c
contact_succeeds meaning takes law b c x z n prepared carries contact =
    let st : Stage silence [] [] b = record {
      on = prepared.on;
      sessions = prepared.new.no-session;
      log = prepared.new.no-event;
      two-sessions = prepared.two-sessions;
      two-events = prepared.two-events;
    } in
    let (none, stage) = first_started meaning takes law c z contact.answered contact.is-answered contact.asked contact.is-asked b x n st carries contact.plays in
    (none, record { needed = kept_event told_event; completion = kept_event set_event; whole = stage.log; lists-needed = refl; lists-completion = refl })
