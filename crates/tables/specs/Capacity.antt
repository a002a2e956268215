-- How many entries a list can have.
use Rattle.std.specs.Prelude.{ℕ, List, length, min}

-- as many as its table is long, and at most 4096
abbrev pub capacity_of : {T : Type 0} → List T → ℕ
capacity_of table = min (length table) 4096
