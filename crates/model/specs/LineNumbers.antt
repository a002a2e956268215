-- In which line of its text each part of a sheet stands. Lines are counted from 1, and the first is the heading.
use Rattle.std.specs.Prelude.{ℕ, ◌+◌, List, [], ◌∷◌, length}
use Rattle.model.specs.Sheet.{Role, Sheet}

-- A role has a line for its name, one for each variable and one for each step.
abbrev pub role_lines : List Role → ℕ
role_lines [] = 0
role_lines (r ∷ rs) = 1 + length r.variables + length r.steps + role_lines rs

-- the section words
abbrev pub agents_line : ℕ
agents_line = 2

abbrev pub texts_line : Sheet → ℕ
texts_line m = agents_line + 1 + length m.agents

abbrev pub roles_line : Sheet → ℕ
roles_line m = texts_line m + 1 + length m.texts

abbrev pub nonces_line : Sheet → ℕ
nonces_line m = roles_line m + 1 + role_lines m.roles

abbrev pub known_line : Sheet → ℕ
known_line m = nonces_line m + 1 + length m.nonces

abbrev pub claim_line : Sheet → ℕ
claim_line m = known_line m + 1 + length m.known

abbrev pub ranks_line : Sheet → ℕ
ranks_line m = claim_line m + 2

-- the seven numbers of the last line
abbrev pub section_lines : Sheet → List ℕ
section_lines m = agents_line ∷ texts_line m ∷ roles_line m ∷ nonces_line m ∷ known_line m ∷ claim_line m ∷ ranks_line m ∷ []

-- the `know`, `rank` and `seal` lines, each counted from 0 among its like
abbrev pub know_line : Sheet → ℕ → ℕ
know_line m i = known_line m + 1 + i

abbrev pub rank_line : Sheet → ℕ → ℕ
rank_line m i = ranks_line m + 1 + length m.free + i

abbrev pub seal_line : Sheet → ℕ → ℕ
seal_line m i = ranks_line m + 1 + length m.free + length m.atoms + i

-- the last line
abbrev pub back_line : Sheet → ℕ
back_line m = ranks_line m + 1 + length m.free + length m.atoms + length m.seals + length m.marks
