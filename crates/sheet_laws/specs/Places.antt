-- Where the faults of a sheet lie.
use Rattle.std.specs.Prelude.{◌≡◌, ℕ, ◌≤◌, List, length, Err}
use Rattle.lexer.specs.declared.Fault.{Fault}
use Rattle.sheet.specs.Sheets.{reading}

-- A fault lies in the text or at its end.
abbrev pub FaultsWithin : Type 0
FaultsWithin = (text : List ℕ) (f : Fault) → reading text ≡ Err f → f.place ≤ length text
