-- The places so far, and those for the rest of the choices, are all.
use Rattle.std.proofs.Common.{◌≡◌, ◌++◌, drop, map}
use Rattle.checker.specs.Kept.{choice_of}
use Rattle.checker.specs.Rows.{choice_at}
use Rattle.checker.proofs.rows.places.Given as goal

abbrev pub invariant-loop-choice : goal.invariant-loop-choice
invariant-loop-choice l = map choice_at l.places.items ++ map choice_of (drop l.choice-index l.choices) ≡ map choice_of l.choices
