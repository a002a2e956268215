-- The places are fewer at each call; and no number below the next one begins an end that is tried and breaks the test.
use Rattle.std.proofs.Common.{length}
use Rattle.search.proofs.Steps.{Passed}
use Rattle.search.proofs.least_row.+extend.Given as goal

abbrev pub decreases-extend : goal.decreases-extend
decreases-extend g l = length l.places.now

abbrev pub invariant-loop-number : goal.invariant-loop-number
invariant-loop-number g l = Passed l.named l.next l.place l.rest (g.T.Test.broken l.test) l.fn.row.items l.row.items l.number
