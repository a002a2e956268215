-- The choices so far, and those for the rest of the variables, are all.
use Rattle.std.proofs.Common.{◌≡◌, ◌++◌, drop, map}
use Rattle.model.specs.Stored.{variable_of}
use Rattle.sheet.specs.Kept.{contents_of}
use Rattle.checker.specs.Kept.{choice_of}
use Rattle.checker.specs.Rows.{role_choices}
use Rattle.checker.proofs.rows.role_choices.Given as goal

abbrev pub invariant-loop-i : goal.invariant-loop-i
invariant-loop-i l = map choice_of l.choices.items ++ role_choices (contents_of l.contents) l.role l.agent l.i (map variable_of (drop l.i l.variables)) ≡ role_choices (contents_of l.contents) l.role l.agent 0 (map variable_of l.variables)
