use Rattle.std.proofs.Common.{◌≡◌, ◌+◌, drop}
use Rattle.lexer.specs.Text.{line_of}
use Rattle.draft.specs.Reading.{says_all}
use Rattle.draft.proofs.draft.says_all.Given as goal

-- what is left to be said is all that there is to say
abbrev pub invariant-loop-i : goal.invariant-loop-i
invariant-loop-i l = says_all (line_of l.line) 1 l.numbers ≡ says_all (line_of l.line) (l.i + 1) (drop l.i l.numbers)
