-- What stays the same of a board, and what one session's move changes.
use Rattle.std.specs.Prelude.{◌≡◌, ℕ, slice_set}
use Rattle.tables.specs.Entries.{entries, table_of}
use Rattle.board.specs.declared.board.Board.{Board}
use Rattle.board.specs.declared.records.Session.{Session}

-- The same sheet and the same tables.
pub record Stays (before after : Board) : Type 0 where
  pub sheet : after.sheet.now ≡ before.sheet.now
  pub sessions : after.sessions.table.ghost_name ≡ before.sessions.table.ghost_name
  pub log : after.log.table.ghost_name ≡ before.log.table.ghost_name

-- Session i is now s, and all else is as before.
pub record Moves (i : ℕ) (s : Session) (before after : Board) : Type 0 where
  pub sessions : entries after.sessions ≡ slice_set (entries before.sessions) i s
  pub sessions_table : table_of after.sessions ≡ slice_set (table_of before.sessions) i s
  pub log : after.log ≡ before.log
  pub same : Stays before after
