-- Each call of a board is one call of a rehearsal.
use Rattle.std.specs.Prelude.{◌≡◌, ℕ, ◌∷◌, [], ◌++◌, Some, slice_set}
use Rattle.instances.specs.Actions.{Event, signals}
use Rattle.medium.specs.Media.{Meaning}
use Rattle.model.specs.Sheet.{Sheet}
use Rattle.rehearsals.specs.Boards as boards
use Rattle.rehearsals.specs.Boards.{Call, New, Ready, Session, moved}
use Rattle.board.specs.declared.board.Board.{Board}
use Rattle.board.specs.Records.{board_of}

-- A call that has nothing to do with a medium: a session starts or signals, or the call is declined.
pub data Apart (sheet : Sheet) : boards.Board → boards.Board → Type 0 where
  started : {b : boards.Board} (s : Session) → New sheet s → Apart sheet b (boards.board_of (b.sessions ++ (s ∷ [])) b.log)
  signalled : {b : boards.Board} (i : ℕ) (s : Session) (e : Event) → Ready sheet b i s s.variables (signals e)
      → Apart sheet b (boards.board_of (slice_set b.sessions i (moved s s.variables)) (b.log ++ (e ∷ [])))
  declined : {b : boards.Board} → Apart sheet b b

-- On a sheet that is read, it is such a call.
abbrev pub CalledApart : Board → Board → Type 0
CalledApart b c = (sheet : Sheet) → b.sheet.now ≡ Some sheet → Apart sheet (board_of b) (board_of c)

-- On a sheet that is read, it is a call over a medium.
abbrev pub Called : {X : Type 0} → (X → Meaning) → Board → X → Board → X → Type 0
Called meaning b x c y = (sheet : Sheet) → b.sheet.now ≡ Some sheet → Call sheet meaning (board_of b) x (board_of c) y
