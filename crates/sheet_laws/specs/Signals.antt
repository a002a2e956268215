-- The form of the signals of a sheet.
use Rattle.std.specs.Prelude.{◌≡◌, ℕ, ◌≤◌, true, List, length, Ok}
use Rattle.std.specs.List.{AllByRecursion}
use Rattle.sheet.specs.Sheets.{reading}
use Rattle.model.specs.Names.{is_name}
use Rattle.model.specs.Sheet.{Sheet, Signal, Step, receive, send, signal}

-- A signal word has a name's form, and one to four atoms follow it.
pub record Formed (s : Signal) : Type 0 where
  pub word : is_name s.word ≡ true
  pub some : 1 ≤ length s.fields
  pub few : length s.fields ≤ 4

-- What the step signals, if it does, is so formed.
abbrev pub FormedStep : Step → Type 0
FormedStep (send t) = Unit {0}
FormedStep (receive t) = Unit {0}
FormedStep (signal s) = Formed s

-- The signals of the roles, of the claim and of the marks are so formed.
pub record WellFormed (m : Sheet) : Type 0 where
  pub roles : AllByRecursion (λ r. AllByRecursion FormedStep r.steps) m.roles
  pub completion : Formed m.claim.completion
  pub needed : Formed m.claim.needed
  pub marks : AllByRecursion (λ r. Formed r.what) m.marks

-- The signals of a sheet that is read are so formed.
abbrev pub SignalsFormed : Type 0
SignalsFormed = (text : List ℕ) (m : Sheet) → reading text ≡ Ok m → WellFormed m
