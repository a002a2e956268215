use Rattle.std.proofs.Common.{◌≡◌, ◌+◌, drop}
use Rattle.lexer.specs.Text.{lines_of}
use Rattle.draft.specs.Kept.{draft_of}
use Rattle.draft.specs.Sections.{blank, lines_from}
use Rattle.sheet.proofs.sheet.read_draft.Given as goal

-- reading on from here is reading all
abbrev pub invariant-loop-i : goal.invariant-loop-i
invariant-loop-i l = lines_from blank 1 (lines_of l.lines) ≡ lines_from (draft_of l.draft) (l.i + 1) (lines_of (drop l.i l.lines))
