use Rattle.std.proofs.Common.{◌≡◌, Err, rules}
use Rattle.std.proofs.lemmas.List.{nil_from_length}
use Rattle.hex_text.specs.declared.HexError.TheVariants.{NotBytes}
use Rattle.hex_text.proofs.Reading.{first_two, spaced, start, no-digits, last, again}
use Rattle.hex_text.proofs.read.Goals as goal

pub loop-rest-init : goal.loop-rest-init
loop-rest-init c = start _ _ (search rules) c.new-bytes.ensures.items

pub returns-in_err-ok_or : goal.returns-in_err-ok_or
returns-in_err-ok_or c =
    let e : c.from_residual.result ≡ Err NotBytes = search rules in
    rw e (no-digits c.loop-rest.invariant (first_two _ (search rules)) (search rules))

pub returns-in-empty : goal.returns-in-empty
returns-in-empty c =
    rw c.in_ok-push.ensures.items
    (last c.loop-rest.invariant (first_two _ (search rules)) _ (search rules) (nil_from_length _ (search rules)))

pub loop-rest-preserved : goal.loop-rest-preserved
loop-rest-preserved c =
    rw c.in_ok-push.ensures.items
    (again c.loop-rest.invariant (first_two _ (search rules)) _ (search rules) _ (spaced _ (search rules) (search rules)))
