use Rattle.std.proofs.Common.{◌≡◌, drop, map, arith}
use Rattle.std.proofs.lemmas.List.{at_drop_all}
use Rattle.model.specs.LineNumbers.{role_lines}
use Rattle.model.specs.Stored.{role_of}
use Rattle.sheet.proofs.line_numbers.lines_of_all.Goals as goal

pub returns : goal.returns
returns c =
    let none : role_lines (map role_of (drop c.loop-role.role-index c.args.roles.now)) ≡ 0 = at_drop_all (λ l. role_lines (map role_of l)) c.args.roles.now c.loop-role.role-index c.loop-role-test.false in
    omega (arith, none, c.loop-role.invariant.0, c.loop-role.invariant.1)
