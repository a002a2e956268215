use Rattle.std.proofs.Common.{◌≡◌, ◌-◌, ◌≤◌, Some, None, Err, length, sym, ap, arith, rules, length-append}
use Rattle.message.proofs.Whole.{front-message, no_front}
use Rattle.message.proofs.read.read_front.Goals as goal

pub returns-in_err-rest : goal.returns-in_err-rest
returns-in_err-rest c =
    let e : c.from_residual.result ≡ Err c.in_err-rest.field-0.0 = search rules in
    let none : c.after.result ≡ None = search rules in
    rw e (λ front rest (m, w) e.
    no_front c.args.bytes.now (c.min.result - 0) front rest (omega (arith, w.short, simp length-append at (ap length e))) (m, w) e (rw none at c.after.ensures))

pub returns : goal.returns
returns c =
    let few : c.min.result - 0 ≤ 96 = omega arith in
    let some : c.after.result ≡ Some c.in_ok-rest.rest = search rules in
    (front-message _ _ few _ _ (rw some at c.after.ensures) c.split_at.ensures.front, sym c.split_at.ensures.by_index.0)
