-- What sessions did in a rehearsal.
use Rattle.std.specs.Prelude.{ℕ, ◌==◌, List, [], ◌∷◌, ◌++◌}
use Rattle.std.specs.List.{filter}
use Rattle.model.specs.Sheet.{Sheet}
use Rattle.instances.specs.Actions.{Action, receives, sends, signals}
use Rattle.medium.specs.Media.{Meaning}
use Rattle.rehearsals.specs.Boards.{Board, Call, Session, started, sent, delivered, signalled, declined}
use Rattle.rehearsals.specs.Rehearsals.{Rehearsal, opening, further}

-- The session of this number did this, and it was this step of its role.
pub record Deed : Type 0 where
  pub session : ℕ
  pub step : ℕ
  pub action : Action

abbrev pub deed : ℕ → Session → Action → Deed
deed i s d = record { session = i; step = s.next; action = d }

-- What was done in one call: the next step of the session that sends, receives or signals. A start is no step, and neither is a declined call.
abbrev pub done_in : {sheet : Sheet} {X : Type 0} {meaning : X → Meaning} {b c : Board} {x y : X} → Call sheet meaning b x c y → List Deed
done_in (started s n) = []
done_in (sent i s m r t) = deed i s (sends m) ∷ []
done_in (delivered i s m variables r h o) = deed i s (receives m) ∷ []
done_in (signalled i s e r) = deed i s (signals e) ∷ []
done_in declined = []

-- What all sessions did, in the order in which they did it.
abbrev pub deeds : {sheet : Sheet} {X : Type 0} {meaning : X → Meaning} {b : Board} {x : X} → Rehearsal sheet meaning b x → List Deed
deeds (opening is silent) = []
deeds (further before call) = deeds before ++ done_in call

-- What session i did.
abbrev pub deeds_of : ℕ → List Deed → List Deed
deeds_of i ds = filter (λ d. d.session == i) ds
