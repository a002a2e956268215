use Rattle.std.proofs.Common.{rules}
use Rattle.terms.specs.Terms.{read_signal}
use Rattle.model.proofs.Naming.{name-short}
use Rattle.terms.proofs.reader.read_signal.Goals as goal

pub returns-then-not-is_name : goal.returns-then-not-is_name
unfolding read_signal
returns-then-not-is_name c = search rules

pub returns-in_err-fields : goal.returns-in_err-fields
unfolding read_signal
returns-in_err-fields c = search rules

pub returns : goal.returns
unfolding read_signal
returns c = search (rules, name-short)
