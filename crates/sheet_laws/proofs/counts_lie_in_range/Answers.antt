use Rattle.sheet_laws.proofs.Counting.{in_range}
use Rattle.sheet_laws.proofs.counts_lie_in_range.Goals as goal

pub returns : goal.returns
returns c = in_range
