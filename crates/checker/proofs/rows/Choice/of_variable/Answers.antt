-- The flags of the nonces as they are kept are those of the sheet's nonces.
use Rattle.std.proofs.Common.{Bool, true, List, ap, ◌∙◌}
use Rattle.message.specs.declared.Kind.TheVariants as kind
use Rattle.checker.specs.Rows.{Choice}
use Rattle.checker.proofs.Rowing.{flags_stored}
use Rattle.checker.proofs.rows.Choice.of_variable.Goals as goal

abbrev flagged : List Bool → Choice
flagged fs = record { kind = kind.Nonce; named = fs; strangers = true }

pub returns-in_ok-own_nonces-in-Fresh : goal.returns-in_ok-own_nonces-in-Fresh
returns-in_ok-own_nonces-in-Fresh c =
    rw c.in-Fresh.is (ap flagged (c.in_ok-own_nonces-in-Fresh.ensures ∙ flags_stored c.args.role c.args.agent c.args.variable c.nonces.result.now _ c.nonces.ensures))
