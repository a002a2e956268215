-- What a relay means.
use Rattle.std.specs.Prelude.{◌≡◌, ℕ, Contains, List, []}
use Rattle.std.specs.Borrow.{MutBor}
use Rattle.std.proofs.Common.{inr}
use Rattle.medium.specs.declared.relay.Relay.{Relay}
use Rattle.medium.specs.Media.{Meaning, Sound, Hears}
use Rattle.medium.specs.Store.{Lies, Room, capacity}
use Rattle.message.specs.Generates.{known}
use Rattle.message.specs.Message.{Msg}
use Rattle.model.specs.Sheet.{Sheet}
use Rattle.sheet.specs.Kept.{contents_of}

-- What a relay has heard.
unfoldable pub heard : Relay → List Msg
heard r = r.filled.1

-- A relay offers exactly what it heard.
abbrev pub relayed : Relay → Meaning
relayed r = record { sheet = contents_of r.sheet.now; heard = heard r; offered = Contains (heard r); space = Room (capacity r.area.now) (heard r) }

pub relay_sound : (r : Relay) → Sound (relayed r)
relay_sound r = record { made = λ m h. known (inr h) }

-- A relay that is made on a sheet over an area lent to it: it has heard nothing, and the area is as it was.
pub record New (sheet : Sheet) (lent : MutBor (List ℕ)) (r : Relay) : Type 0 where
  pub on : contents_of r.sheet.now ≡ sheet
  pub silent : heard r ≡ []
  pub area : r.area.now ≡ lent.now
  pub same-area : r.area.ghost_name ≡ lent.ghost_name

-- A relay takes m: it hears it, and has what it heard at the front of the same area.
pub record Takes (s : Relay) (m : Msg) (t : Relay) : Type 0 where
  pub hears : Hears (relayed s) (relayed t) m
  pub area : Lies (heard t) s.area.now t.area.now
  pub same-area : t.area.ghost_name ≡ s.area.ghost_name
