-- The stack has the ranks of the messages that the last pieces are.
use Rattle.std.proofs.Common.{◌≡◌, ◌+◌, ◌≤◌, length, drop}
use Rattle.sheet.specs.Kept.{contents_of}
use Rattle.ranks.specs.Ranking.{stacked}
use Rattle.ranks.proofs.compute.rank_pieces.Given as goal

abbrev pub invariant-loop-i : goal.invariant-loop-i
invariant-loop-i g l = (length l.ranks + l.i ≤ length l.pieces) × (l.ranks ≡ stacked g.S.Scale.meaning (contents_of l.contents) (drop l.i l.pieces))
