-- What the code relies on of a sheet that is read.
use Rattle.std.proofs.Common.{◌≡◌, ℕ, List, true, Some, None, Ok, Option, sym, refl, ap, ◌∙◌}
use Rattle.std.proofs.lemmas.Bool.{false≢true}
use Rattle.model.specs.declared.node.Field.{Field}
use Rattle.model.specs.declared.node.Field.TheVariants as field
use Rattle.model.specs.Trees.{Term, leaf, pair, key, seal}
use Rattle.sheet_laws.specs.References.{NamesRefer, Place, RefersFirst, RoleRefers, StepRefers, TermRefers, in_role}
use Rattle.sheet_laws.proofs.Messaging.{each_at}
use Rattle.board.specs.Matching.{is_player}
use Rattle.board.specs.Receiving.{Receives}
use Rattle.board.proofs.Comparing.{Owned}
use Rattle.std.specs.List.{slice_get}
use Rattle.std.proofs.lemmas.Option.{none-some}
use Rattle.model.specs.Sheet.{Role, Sheet, Step, receive, send, signal}
use Rattle.sheet.specs.Sheets.{reading}
use Rattle.sheet_laws.specs.Signals.{FormedStep, SignalsFormed}
use Rattle.board.specs.declared.records.Session.{Session}
use Rattle.board.specs.Steps.{WasRead, next_step, step_in}

-- what holds of each step of each role of a sheet that is read holds of a session's next step
next_is : (P : Step → Type 0) (Q : Role → Type 0) → ((role : Role) (k : ℕ) (s : Step) → Q role → slice_get role.steps k ≡ Some s → P s)
    → (sheet : Option Sheet) → ((m : Sheet) (text : List ℕ) → reading text ≡ Ok m → (r : ℕ) (role : Role) → slice_get m.roles r ≡ Some role → Q role)
    → WasRead sheet → (s : Session) (step : Step) → next_step sheet s ≡ Some step → P step
next_is P Q down None law read s step e = absurd read
next_is P Q down (Some m) law read s step e = go (slice_get m.roles s.role) (λ role is. law m read.0 read.1 s.role role is) e
  where
    go : (o : Option Role) → ((role : Role) → o ≡ Some role → Q role) → step_in o s.next ≡ Some step → P step
    go None q e = absurd (none-some step e)
    go (Some role) q e = down role s.next step (q role refl) e

-- what a session's next step signals is well formed
pub next_formed : SignalsFormed → (sheet : Option Sheet) → WasRead sheet → (s : Session) (step : Step) → next_step sheet s ≡ Some step → FormedStep step
next_formed law sheet read s step e =
    next_is FormedStep _ (λ role k s all at. each_at FormedStep role.steps k s all at) sheet (λ m text is r role at. each_at _ m.roles r role (law text m is).roles at) read s step e

-- what a step receives has a key's first agent right
abbrev pub OwnedStep : Step → Type 0
OwnedStep (send t) = Unit {0}
OwnedStep (receive t) = Owned t
OwnedStep (signal s) = Unit {0}

first_owned : (p : Place) → p.script ≡ true → (f : Field) → RefersFirst p f → is_player f ≡ true
first_owned p script field.Player h = refl
first_owned p script (field.Variable i) h = absurd h
first_owned p script (field.Named k n) h = absurd (false≢true (sym h.0 ∙ script))

term_owned : (p : Place) → p.script ≡ true → (t : Term) → TermRefers p t → Owned t
term_owned p script (leaf f) h = tt
term_owned p script (pair l r) h = (term_owned p script l h.0, term_owned p script r h.1)
term_owned p script (key f g) h = first_owned p script f h.0
term_owned p script (seal f g t) h = (first_owned p script f h.0, term_owned p script t h.2)

step_owned : (m : Sheet) (role : Role) (s : Step) → StepRefers (in_role m role) s → OwnedStep s
step_owned m role (send t) h = tt
step_owned m role (receive t) h = term_owned (in_role m role) refl t h
step_owned m role (signal s) h = tt

pub next_owned : NamesRefer → (sheet : Option Sheet) → WasRead sheet → (s : Session) (step : Step) → next_step sheet s ≡ Some step → OwnedStep step
next_owned law sheet read s step e =
    next_is OwnedStep (λ role. (m : Sheet) × RoleRefers m role)
    (λ role k s q at. step_owned q.0 role s (each_at (StepRefers (in_role q.0 role)) role.steps k s q.1.steps at))
    sheet (λ m text is r role at. (m, each_at (RoleRefers m) m.roles r role (law text m is).roles at)) read s step e

-- the term that a session receives
pub received_owned : NamesRefer → (sheet : Option Sheet) (s : Session) (role : Role) (term : Term) → Receives sheet s role term → Owned term
received_owned law sheet s role term r = next_owned law sheet r.read s (receive term) (ap (λ o. step_in o s.next) r.is-role ∙ r.is-step)
