use Rattle.std.proofs.Common.{rules}
use Rattle.terms.proofs.Fields.{fields-pointwise}
use Rattle.terms.proofs.same.same_signal.Goals as goal

pub returns-then-is : goal.returns-then-is
returns-then-is c = search (rules, fields-pointwise)
