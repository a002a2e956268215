-- The step that a session receives at.
use Rattle.std.specs.Prelude.{◌≡◌, Bool, true, false, Some, None, Option}
use Rattle.std.specs.List.{slice_get}
use Rattle.model.specs.Sheet.{Role, Sheet, Step, receive, send, signal}
use Rattle.model.specs.Stored.{role_of, term_of}
use Rattle.model.specs.Trees.{Term}
use Rattle.board.specs.declared.records.Session.{Session}
use Rattle.board.specs.declared.steps.Received as code
use Rattle.board.specs.Steps.{WasRead, next_step, role_at}

-- The session's next step receives this term, in this role of a sheet that is read.
pub record Receives (sheet : Option Sheet) (s : Session) (role : Role) (term : Term) : Type 0 where
  pub is-role : role_at sheet s.role ≡ Some role
  pub is-step : slice_get role.steps s.next ≡ Some (receive term)
  pub read : WasRead sheet

abbrev pub receives_at : Option Step → Bool
receives_at None = false
receives_at (Some (send t)) = false
receives_at (Some (receive t)) = true
receives_at (Some (signal e)) = false

-- That role and term are answered, or that its next step receives nothing.
abbrev pub ReceivesAt : Option Sheet → Session → Option code.Received → Type 0
ReceivesAt sheet s None = receives_at (next_step sheet s) ≡ false
ReceivesAt sheet s (Some r) = Receives sheet s (role_of r.role.now) (term_of r.term.now)
