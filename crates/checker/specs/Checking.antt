-- What the check answers.
use Rattle.std.specs.Prelude.{◌≡◌, Some, None, Ok, Err, Option, Result}
use Rattle.model.specs.Sheet.{Sheet}
use Rattle.scale.specs.Scales.{Scale}
use Rattle.ranks.specs.Ranks.{Valued}
use Rattle.checker.specs.declared.verdict.Unchecked.{Unchecked}
use Rattle.checker.specs.declared.verdict.Unchecked.TheVariants.{Unread, Lacking, Memory}
use Rattle.checker.specs.declared.verdict.Verdict.{Verdict}
use Rattle.checker.specs.Kept.{verdict_of}
use Rattle.checker.specs.Verdicts.{Judges}

-- An unread sheet is declined with 20. A sheet is declined with 21 where a line gives a rank that is no value of the scale. Else the right verdict
-- is answered, if memory suffices.
abbrev pub Checks : Scale → Option Sheet → Result Verdict Unchecked → Type 0
Checks scale None r = r ≡ Err Unread
Checks scale (Some sheet) (Ok v) = Valued scale sheet × Judges scale sheet (verdict_of v)
Checks scale (Some sheet) (Err Unread) = ⊥
Checks scale (Some sheet) (Err Lacking) = Valued scale sheet → ⊥
Checks scale (Some sheet) (Err Memory) = Valued scale sheet
