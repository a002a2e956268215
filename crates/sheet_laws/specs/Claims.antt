-- The two events of a sheet's claim.
use Rattle.std.specs.Prelude.{◌≡◌, ℕ, List, Some, Ok}
use Rattle.model.specs.Sheet.{Claim, Sheet}
use Rattle.instances.specs.Actions.{Event, event}
use Rattle.instances.specs.Substitution.{names_alone}
use Rattle.sheet.specs.Sheets.{reading}

-- No event is both the completion and the needed one.
abbrev pub OfTwoEvents : Claim → Type 0
OfTwoEvents c = (e : Event) → event names_alone c.completion ≡ Some e → event names_alone c.needed ≡ Some e → ⊥

-- The claim of a sheet that is read is of two events.
abbrev pub ClaimsOfTwoEvents : Type 0
ClaimsOfTwoEvents = (text : List ℕ) (m : Sheet) → reading text ≡ Ok m → OfTwoEvents m.claim
