-- What the code's records stand for.
use Rattle.std.specs.Prelude.{ℕ, zero, suc, List, [], ◌∷◌, map, Some, None, Option}
use Rattle.message.specs.declared.Atom.{Atom}
use Rattle.model.specs.Names.{letters}
use Rattle.instances.specs.Actions as actions
use Rattle.rehearsals.specs.Boards as boards
use Rattle.tables.specs.Entries.{entries}
use Rattle.board.specs.declared.board.Board.{Board}
use Rattle.board.specs.declared.records.Event.{Event}
use Rattle.board.specs.declared.records.Session.{Session}

abbrev pub session_of : Session → boards.Session
session_of s = record { role = s.role; agent = s.agent; next = s.next; variables = s.values }

-- those that are there, in order
abbrev pub there : List (Option Atom) → List Atom
there [] = []
there (None ∷ os) = there os
there (Some x ∷ os) = x ∷ there os

abbrev pub event_of : Event → actions.Event
event_of e = record { word = letters e.word; atoms = there e.atoms }

-- so many places: the atoms, and none behind them
abbrev pub in_places : ℕ → List Atom → List (Option Atom)
in_places zero xs = []
in_places (suc n) [] = None ∷ in_places n []
in_places (suc n) (x ∷ xs) = Some x ∷ in_places n xs

-- An event as the log keeps it.
abbrev pub kept_event : actions.Event → Event
kept_event e = record { word = record { letters = e.word }; atoms = in_places 4 e.atoms }

-- A board as rehearsals have it.
abbrev pub board_of : Board → boards.Board
board_of b = boards.board_of (map session_of (entries b.sessions)) (map event_of (entries b.log))

-- What tables are filled with before a board has them.
abbrev pub blank_session : Session
blank_session = record { role = 0; agent = 0; next = 0; values = in_places 5 [] }

abbrev pub blank_event : Event
blank_event = kept_event (record { word = []; atoms = [] })
