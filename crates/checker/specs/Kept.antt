-- What the code's verdicts and errors stand for.
use Rattle.std.specs.Prelude.{ℕ, List, true, Some, None, codes, vec_items, Option}
use Rattle.std.specs.Option.{option_map}
use Rattle.checker.specs.declared.verdict.Unchecked.{Unchecked}
use Rattle.checker.specs.declared.verdict.Unchecked.TheVariants.{Unread, Lacking, Memory}
use Rattle.checker.specs.declared.verdict.Verdict.{Verdict}
use Rattle.checker.specs.declared.verdict.Verdict.TheVariants.{Accepted, Known, Ranked, Sealed, Completed, Acted}
use Rattle.checker.specs.declared.rows.Choice.{Choice}
use Rattle.checker.specs.Rows as rows
use Rattle.checker.specs.Verdicts as verdicts
use Rattle.checker.specs.Verdicts.{accepted, known, ranked, sealed, completed, acted}

abbrev pub verdict_of : Verdict → verdicts.Verdict
verdict_of Accepted = accepted
verdict_of (Known line) = known line
verdict_of (Ranked line) = ranked line
verdict_of (Sealed line values) = sealed line (vec_items values)
verdict_of Completed = completed
verdict_of (Acted role step agent values) = acted role step agent (vec_items values)

-- the number of a refusal of the check; want of memory is none
abbrev pub number_of : Unchecked → Option ℕ
number_of Unread = Some 20
number_of Lacking = Some 21
number_of Memory = None

-- its row in the table of refusals
abbrev pub row_of : Unchecked → Option (List ℕ)
row_of u = option_map (λ n. codes "check") (number_of u)

-- where it lies: in no byte of the text, which counts as 0
abbrev pub place_of : Unchecked → Option ℕ
place_of u = option_map (λ n. 0) (number_of u)

-- what may stand in a slot; numbers that have no name always may
abbrev pub choice_of : Choice → rows.Choice
choice_of c = record { kind = c.kind; named = vec_items c.named; strangers = true }
