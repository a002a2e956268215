-- The table of the board's refusals: each has a number, and a row, which is the call that is declined.
use Rattle.std.specs.Prelude.{ℕ, List, codes}
use Rattle.board.specs.declared.refusal.Move.{Move}
use Rattle.board.specs.declared.refusal.Move.TheVariants as move
use Rattle.board.specs.declared.refusal.Refusal.{Refusal}
use Rattle.board.specs.declared.refusal.Refusal.TheVariants.{NoRole, NotPlayer, NotAllowed, SessionsFull, NoSession, OtherStep, NoSpace, NotMessage, NotOffered, NoMatch, LogFull}

abbrev pub number_of : Refusal → ℕ
number_of NoRole = 30
number_of NotPlayer = 31
number_of NotAllowed = 32
number_of SessionsFull = 33
number_of (NoSession m) = 40
number_of (OtherStep m) = 41
number_of NoSpace = 42
number_of NotMessage = 43
number_of NotOffered = 44
number_of NoMatch = 45
number_of LogFull = 46

abbrev pub move_row : Move → List ℕ
move_row move.Send = codes "send"
move_row move.Deliver = codes "deliver"
move_row move.Signal = codes "signal"

abbrev pub row_of : Refusal → List ℕ
row_of NoRole = codes "start"
row_of NotPlayer = codes "start"
row_of NotAllowed = codes "start"
row_of SessionsFull = codes "start"
row_of (NoSession m) = move_row m
row_of (OtherStep m) = move_row m
row_of NoSpace = move_row move.Send
row_of NotMessage = move_row move.Deliver
row_of NotOffered = move_row move.Deliver
row_of NoMatch = move_row move.Deliver
row_of LogFull = move_row move.Signal

-- Where it lies: in no byte of a text, which counts as 0.
abbrev pub place_of : Refusal → ℕ
place_of r = 0
