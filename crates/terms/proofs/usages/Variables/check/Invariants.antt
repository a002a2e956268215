use Rattle.std.proofs.Common.{◌≡◌, map, length, vec_items}
use Rattle.terms.specs.Usages.{check_usages}
use Rattle.model.specs.Stored.{variable_of}
use Rattle.terms.proofs.Standing.{check_from}
use Rattle.terms.proofs.usages.Variables.check.Given as goal

abbrev pub invariant-loop-variable : goal.invariant-loop-variable
invariant-loop-variable l =
    check_usages (map variable_of (vec_items l.self.list)) (vec_items l.self.usages)
    ≡ check_from (vec_items l.self.list) (vec_items l.self.usages) (length l.yielded)
