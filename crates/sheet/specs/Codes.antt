-- That a text is read to a sheet is one fact: two sheets, and two faults, can be told apart.
use Rattle.std.specs.Prelude.{◌≡◌, ℕ, List, Ok}
use Rattle.std.specs.Coded.{Coded-set, codes}
use Rattle.lexer.specs.contracts.Fault as fault
use Rattle.model.specs.Codes.{term_code}
use Rattle.model.specs.Sheet.{Sheet}
use Rattle.sheet.specs.Sheets.{reading}

pub read_once : (text : List ℕ) (m : Sheet) → IsProp (reading text ≡ Ok m)
read_once text m = Coded-set (Prim.hlevel (codes, term_code, fault.the_row.coded)) (reading text) (Ok m)
