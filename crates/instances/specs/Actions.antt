-- What a role does at each of its steps, and the events that signals are.
use Rattle.std.specs.Prelude.{ℕ, List, [], ◌∷◌, Some, None, Option}
use Rattle.std.specs.List.{slice_get}
use Rattle.std.specs.Option.{option_map}
use Rattle.message.specs.declared.Atom.{Atom}
use Rattle.message.specs.Message.{Msg}
use Rattle.model.specs.declared.node.Field.{Field}
use Rattle.model.specs.Sheet.{Role, Signal, Step, send, receive, signal}
use Rattle.instances.specs.Substitution.{Values, both, message, value}

-- An event: a signal word, and atoms in order.
pub record Event : Type 0 where
  pub word : List ℕ
  pub atoms : List Atom

-- what each of the fields stands for; none where one stands for nothing
abbrev pub atoms_under : Values → List Field → Option (List Atom)
atoms_under v [] = Some []
atoms_under v (f ∷ fs) = both (λ x xs. x ∷ xs) (value v f) (atoms_under v fs)

-- The event that a signal is; none where one of its atoms stands for nothing.
abbrev pub event : Values → Signal → Option Event
event v s = option_map (λ xs. record { word = s.word; atoms = xs }) (atoms_under v s.fields)

-- What a step does.
pub data Action : Type 0 where
  sends : Msg → Action
  receives : Msg → Action
  signals : Event → Action

-- what a step does under values; none where it is no message and no event
abbrev pub action : Values → Step → Option Action
action v (send t) = option_map sends (message v t)
action v (receive t) = option_map receives (message v t)
action v (signal s) = option_map signals (event v s)

abbrev pub done_at : Values → Option Step → Option Action
done_at v None = None
done_at v (Some s) = action v s

-- What the role does at step k, where its steps are numbered from 0; nothing past its last step.
abbrev pub does : Role → Values → ℕ → Option Action
does role v k = done_at v (slice_get role.steps k)
