use Rattle.std.proofs.Common.{◌≡◌, ◌<◌, ◌+◌, ◌-◌, ◌^◌, drop, map, min}
use Rattle.model.specs.LineNumbers.{role_lines}
use Rattle.model.specs.Stored.{role_of}
use Rattle.sheet.proofs.line_numbers.lines_of_all.Given as goal

-- with the lines of the roles that are left, as many as all have
abbrev pub invariant-loop-role : goal.invariant-loop-role
invariant-loop-role l =
    (l.lines < 2 ^ 64)
    × (min (role_lines (map role_of l.roles)) (2 ^ 64 - 1) ≡ min (l.lines + role_lines (map role_of (drop l.role-index l.roles))) (2 ^ 64 - 1))
