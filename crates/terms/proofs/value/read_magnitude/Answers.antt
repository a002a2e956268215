use Rattle.std.proofs.Common.{sym, ap, ◌∙◌}
use Rattle.terms.proofs.Magnitudes.{capped, no-text, parsed, text-is, too-long}
use Rattle.terms.proofs.value.read_magnitude.Goals as goal

pub returns-then-digits-gt-MOST_DIGITS : goal.returns-then-digits-gt-MOST_DIGITS
returns-then-digits-gt-MOST_DIGITS c = too-long c.args.digits.now c.if-digits-gt-MOST_DIGITS.true

pub returns-in_err-ok : goal.returns-in_err-ok
returns-in_err-ok c = absurd (no-text c.args.digits.now c.if-not-are_digits.ensures _ c.from_utf8.result c.from_utf8.ensures.cases (sym c.ok.ensures.value ∙ c.in_err-ok.was))

pub returns-in_err-number : goal.returns-in_err-number
returns-in_err-number c =
    c.from_residual-in_err-number.ensures
    ∙ ap capped (sym c.in_err-number.was ∙ c.ok-2.ensures.value)
    ∙ parsed c.args.digits.now c.if-not-are_digits.ensures c.if-not-is_unpadded.ensures c.in_ok-ok.field-0.now c.parse.result c.parse.ensures.value.0 (text-is c.args.digits.now c.if-not-are_digits.ensures _ c.from_utf8.result c.from_utf8.ensures.cases c.in_ok-ok.field-0 c.in_ok-ok.ensures.value)

pub returns : goal.returns
returns c =
    c.then_some.ensures
    ∙ ap capped (sym c.in_ok-number.was ∙ c.ok-2.ensures.value)
    ∙ parsed c.args.digits.now c.if-not-are_digits.ensures c.if-not-is_unpadded.ensures c.in_ok-ok.field-0.now c.parse.result c.parse.ensures.value.0 (text-is c.args.digits.now c.if-not-are_digits.ensures _ c.from_utf8.result c.from_utf8.ensures.cases c.in_ok-ok.field-0 c.in_ok-ok.ensures.value)
