-- How many there are of each thing in a sheet.
use Rattle.std.specs.Prelude.{◌≡◌, ℕ, ◌≤◌, List, length, Ok}
use Rattle.std.specs.List.{AllByRecursion}
use Rattle.sheet.specs.Sheets.{reading}
use Rattle.model.specs.Sheet.{Role, Sheet}

-- A role has at most five variables, and one to eight steps.
abbrev pub ScriptCounted : Role → Type 0
ScriptCounted r = (length r.variables ≤ 5) × (1 ≤ length r.steps) × (length r.steps ≤ 8)

-- The counts of the table of sections.
pub record Counted (m : Sheet) : Type 0 where
  pub agents : (1 ≤ length m.agents) × (length m.agents ≤ 6)
  pub texts : length m.texts ≤ 6
  pub roles : (1 ≤ length m.roles) × (length m.roles ≤ 4)
  pub scripts : AllByRecursion ScriptCounted m.roles
  pub nonces : length m.nonces ≤ 6
  pub known : length m.known ≤ 8
  pub free : length m.free ≤ 5
  pub atoms : length m.atoms ≤ 12
  pub seals : length m.seals ≤ 12
  pub marks : length m.marks ≤ 6

-- Each count of a sheet that is read is in its range.
abbrev pub CountsInRange : Type 0
CountsInRange = (text : List ℕ) (m : Sheet) → reading text ≡ Ok m → Counted m
