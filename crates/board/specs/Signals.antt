-- What `signal` answers and leaves.
use Rattle.std.specs.Prelude.{◌≡◌, ℕ, cond, List, Some, None, Option, Result, Ok, Err, slice_set}
use Rattle.std.specs.List.{slice_get}
use Rattle.instances.specs.Actions as actions
use Rattle.model.specs.Sheet.{Sheet}
use Rattle.tables.specs.Entries.{entries, entries_pushed, full, table_of, table_pushed}
use Rattle.board.specs.declared.board.Board.{Board}
use Rattle.board.specs.declared.records.Event.{Event}
use Rattle.board.specs.declared.records.Session.{Session}
use Rattle.board.specs.declared.refusal.Move.TheVariants as move
use Rattle.board.specs.declared.refusal.Refusal.{Refusal}
use Rattle.board.specs.declared.refusal.Refusal.TheVariants.{NoSession, OtherStep, LogFull}
use Rattle.board.specs.Boards.{Stays}
use Rattle.board.specs.Records.{kept_event}
use Rattle.board.specs.Steps.{moved, next_action, signalled}

-- A session, and the event that it is to signal.
pub record Signalling : Type 0 where
  pub session : Session
  pub event : Event

abbrev pub signalling : Session → Option actions.Event → Result Signalling Refusal
signalling s None = Err (OtherStep move.Signal)
signalling s (Some e) = Ok (record { session = s; event = kept_event e })

-- Why there is nothing to log, or what is.
abbrev pub to_signal : Option Sheet → Option Session → Result Signalling Refusal
to_signal sheet None = Err (NoSession move.Signal)
to_signal sheet (Some s) = signalling s (signalled (next_action sheet s))

abbrev pub signal_of : Board → ℕ → Result Signalling Refusal
signal_of b i = to_signal b.sheet.now (slice_get (entries b.sessions) i)

module _ (b : Board) (i : ℕ) where
  abbrev pub signal_answer : Result Signalling Refusal → Result (Unit {0}) Refusal
  signal_answer (Err e) = Err e
  signal_answer (Ok x) = cond (full b.log) (Err LogFull) (Ok (record {}))

  abbrev pub sessions_signalled : Result Signalling Refusal → List Session
  sessions_signalled (Err e) = entries b.sessions
  sessions_signalled (Ok x) = cond (full b.log) (entries b.sessions) (slice_set (entries b.sessions) i (moved x.session x.session.values))

  abbrev pub sessions_table_signalled : Result Signalling Refusal → List Session
  sessions_table_signalled (Err e) = table_of b.sessions
  sessions_table_signalled (Ok x) = cond (full b.log) (table_of b.sessions) (slice_set (table_of b.sessions) i (moved x.session x.session.values))

  abbrev pub log_signalled : Result Signalling Refusal → List Event
  log_signalled (Err e) = entries b.log
  log_signalled (Ok x) = entries_pushed b.log x.event

  abbrev pub log_table_signalled : Result Signalling Refusal → List Event
  log_table_signalled (Err e) = table_of b.log
  log_table_signalled (Ok x) = table_pushed b.log x.event

-- Session i signals.
pub record Signals (i : ℕ) (b c : Board) (result : Result (Unit {0}) Refusal) : Type 0 where
  pub answer : result ≡ signal_answer b i (signal_of b i)
  pub sessions : entries c.sessions ≡ sessions_signalled b i (signal_of b i)
  pub sessions_table : table_of c.sessions ≡ sessions_table_signalled b i (signal_of b i)
  pub log : entries c.log ≡ log_signalled b i (signal_of b i)
  pub log_table : table_of c.log ≡ log_table_signalled b i (signal_of b i)
  pub same : Stays b c
