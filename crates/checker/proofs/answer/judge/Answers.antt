-- What is found, condition by condition, is the right verdict.
use Rattle.std.proofs.Common.{◌≡◌, true, false, sym, subst, ◌∙◌}
use Rattle.std.proofs.lemmas.Bool.{false≢true}
use Rattle.sheet.specs.Kept.{contents_of}
use Rattle.checker.specs.Narrowing.{FoundRole}
use Rattle.checker.specs.Sealing.{FoundLine}
use Rattle.checker.proofs.Judging.{accepted_right, acted_right, completed_right, sealed_right}
use Rattle.checker.proofs.answer.judge.Goals as goal

pub returns-in-Some-2 : goal.returns-in-Some-2
returns-in-Some-2 g c =
    sealed_right g.S.Scale.meaning (contents_of c.args.contents.now) g.met.S.Scale.lawful c.in_default.ensures c.in_default-first_ranked.ensures c.in-Some-2.bad.line c.in-Some-2.bad.values.items
    (subst (FoundLine g.S.Scale.meaning (contents_of c.args.contents.now)) c.in-Some-2.is c.in_ok-bad.ensures)

pub returns-then-not-completion_is_not_positive : goal.returns-then-not-completion_is_not_positive
returns-then-not-completion_is_not_positive g c =
    completed_right g.S.Scale.meaning (contents_of c.args.contents.now) g.met.S.Scale.lawful c.in_default.ensures c.in_default-first_ranked.ensures
    (subst (FoundLine g.S.Scale.meaning (contents_of c.args.contents.now)) c.in_default-2.is c.in_ok-bad.ensures)
    (λ no. let is : c.completion_is_not_positive.result ≡ true = c.completion_is_not_positive.ensures.1 no in let isnt : c.completion_is_not_positive.result ≡ false = c.if-not-completion_is_not_positive.true in false≢true (sym isnt ∙ is))

pub returns-in-Some-3 : goal.returns-in-Some-3
returns-in-Some-3 g c =
    acted_right g.S.Scale.meaning (contents_of c.args.contents.now) g.met.S.Scale.lawful c.in_default.ensures c.in_default-first_ranked.ensures
    (subst (FoundLine g.S.Scale.meaning (contents_of c.args.contents.now)) c.in_default-2.is c.in_ok-bad.ensures)
    (c.completion_is_not_positive.ensures.0 c.if-not-completion_is_not_positive.false) c.in-Some-3.role c.in-Some-3.bad.step c.in-Some-3.bad.agent c.in-Some-3.bad.values.items
    (subst (FoundRole g.S.Scale.meaning (contents_of c.args.contents.now)) c.in-Some-3.is c.in_ok-role.ensures)

pub returns : goal.returns
returns g c =
    accepted_right g.S.Scale.meaning (contents_of c.args.contents.now) g.met.S.Scale.lawful c.in_default.ensures c.in_default-first_ranked.ensures
    (subst (FoundLine g.S.Scale.meaning (contents_of c.args.contents.now)) c.in_default-2.is c.in_ok-bad.ensures)
    (c.completion_is_not_positive.ensures.0 c.if-not-completion_is_not_positive.false)
    (subst (FoundRole g.S.Scale.meaning (contents_of c.args.contents.now)) c.in_default-3.is c.in_ok-role.ensures)
