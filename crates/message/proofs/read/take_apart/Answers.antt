use Rattle.std.proofs.Common.{◌≡◌, Some, None, Err, refl, arith, rules, ltb-true}
use Rattle.message.proofs.Apart.{agent-parts, agent-length, nonce-parts, nonce-length, text-parts, text-length, key-parts, key-length, pair_parts, pair-second, seal-parts, seal-length}
use Rattle.message.proofs.Forms.{tagged, at-empty, at_other}
use Rattle.message.proofs.Whole.{begins}
use Rattle.message.proofs.read.take_apart.Goals as goal
use Rattle.message.proofs.read.take_apart.Goals.{in_default-2-via-in-65+then-body-lt1, in_default-2-via-in-78+then-this-lt2, in_default-2-via-in-84+then-this-lt2-2, in_default-2-via-in-75+then-this-lt2-3, in_default-2-via-in-69+then-this-lt3, in_default-2-via-in_default}

pub returns-in_default : goal.returns-in_default
returns-in_default c w = at-empty _ _ (search rules) (begins _ w)

pub returns-in-A-len1-up : goal.returns-in-A-len1-up
returns-in-A-len1-up c = agent-parts _ _ (c.is_message.ensures.0 c.if-not-is_message.false) (tagged _ 65 c.in-A-len1-up.is-0 (search rules))

pub returns-in-N-len2-up : goal.returns-in-N-len2-up
returns-in-N-len2-up c = nonce-parts _ _ (c.is_message.ensures.0 c.if-not-is_message.false) (tagged _ 78 c.in-N-len2-up.is-0 (search rules)) _ c.number.ensures

pub returns-in-T-len2-up : goal.returns-in-T-len2-up
returns-in-T-len2-up c = text-parts _ _ (c.is_message.ensures.0 c.if-not-is_message.false) (tagged _ 84 c.in-T-len2-up.is-0 (search rules)) _ c.number-in-T-len2-up.ensures

pub returns-in-K-len2-up : goal.returns-in-K-len2-up
returns-in-K-len2-up c = key-parts _ _ (c.is_message.ensures.0 c.if-not-is_message.false) (tagged _ 75 c.in-K-len2-up.is-0 (search rules))

pub returns-in_err-second-in-P-default : goal.returns-in_err-second-in-P-default
returns-in_err-second-in-P-default c =
    let e : c.from_residual.result ≡ Err c.in_err-second-in-P-default.field-0.0 = search rules in
    let none : c.after.result ≡ None = search rules in
    rw e (λ w. pair-second _ _ w (tagged _ 80 c.in-P-default.is-0 (search rules)) (rw none at c.after.ensures))

pub returns-in_ok-second-in-P-default : goal.returns-in_ok-second-in-P-default
returns-in_ok-second-in-P-default c =
    let some : c.after.result ≡ Some c.in_ok-second-in-P-default.second = search rules in
    pair_parts _ _ (c.is_message.ensures.0 c.if-not-is_message.false) (tagged _ 80 c.in-P-default.is-0 (search rules)) _ _ (rw some at c.after.ensures) refl

pub returns-in-E-len3-up : goal.returns-in-E-len3-up
returns-in-E-len3-up c = seal-parts _ _ (c.is_message.ensures.0 c.if-not-is_message.false) (tagged _ 69 c.in-E-len3-up.is-0 (search rules)) _ _ refl refl

pub returns-in_default-2 : goal.returns-in_default-2
returns-in_default-2 c m =
    elim c.in_default-2.branch [
      | in_default-2-via-in-65+then-body-lt1 w ↦ omega (arith, ltb-true, agent-length _ _ m (tagged _ 65 (search rules) (search rules)))
      | in_default-2-via-in-78+then-this-lt2 w ↦ omega (arith, ltb-true, nonce-length _ _ m (tagged _ 78 (search rules) (search rules)))
      | in_default-2-via-in-84+then-this-lt2-2 w ↦ omega (arith, ltb-true, text-length _ _ m (tagged _ 84 (search rules) (search rules)))
      | in_default-2-via-in-75+then-this-lt2-3 w ↦ omega (arith, ltb-true, key-length _ _ m (tagged _ 75 (search rules) (search rules)))
      | in_default-2-via-in-69+then-this-lt3 w ↦ omega (arith, ltb-true, seal-length _ _ m (tagged _ 69 (search rules) (search rules)))
      | in_default-2-via-in_default w ↦ at_other _ _ (search rules) (search rules) (search rules) (search rules) (search rules) (search rules) (begins _ m)
    ]
