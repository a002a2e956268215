-- What is proved of a sheet that the check accepts.
use Rattle.std.specs.Prelude.{◌≡◌, Bool, Some, Ok, Err, Option, Result, is_none}
use Rattle.checker.specs.declared.verdict.Unchecked.{Unchecked}
use Rattle.checker.specs.declared.verdict.Verdict.{Verdict}
use Rattle.checker.specs.declared.verdict.Verdict.TheVariants.{Accepted}
use Rattle.checker.specs.Checking.{Checks}
use Rattle.checker.specs.Kept.{verdict_of}
use Rattle.checker.specs.Verdicts.{failing}
use Rattle.medium.specs.Media.{Meaning}
use Rattle.model.specs.Sheet.{Sheet}
use Rattle.rehearsals.specs.Boards as boards
use Rattle.rehearsals.specs.Rehearsals.{Precedes, Rehearsal}
use Rattle.scale.specs.Scales.{Scale}

-- Whether the check accepts, or why it is not made.
abbrev pub whether_accepted : Result Verdict Unchecked → Result Bool Unchecked
whether_accepted (Ok v) = Ok (is_none (failing (verdict_of v)))
whether_accepted (Err e) = Err e

abbrev pub Answers : Scale → Option Sheet → Result Bool Unchecked → Type 0
Answers scale sheet result = (checked : Result Verdict Unchecked) × Checks scale sheet checked × (result ≡ whether_accepted checked)

-- In the log of every rehearsal on the sheet, over a medium whose states have these meanings, the needed event precedes the completion.
abbrev pub Proved : {X : Type 0} → (X → Meaning) → Option Sheet → Type 0
Proved {X} meaning o = (sheet : Sheet) → o ≡ Some sheet → (b : boards.Board) (x : X) → Rehearsal sheet meaning b x → Precedes sheet.claim.needed sheet.claim.completion b.log

-- It is so where the check accepts.
abbrev pub ProvedIfAccepted : Scale → {X : Type 0} → (X → Meaning) → Option Sheet → Type 0
ProvedIfAccepted scale meaning o = Checks scale o (Ok Accepted) → Proved meaning o
