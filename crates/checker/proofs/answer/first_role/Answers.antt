-- The first role in which a bad step is found is the first of all.
use Rattle.std.proofs.Common.{subst}
use Rattle.sheet.specs.Kept.{contents_of}
use Rattle.checker.specs.Narrowing.{FoundIn}
use Rattle.checker.proofs.Clear.{clear_more}
use Rattle.checker.proofs.Judging.{BadRole, no_role}
use Rattle.checker.proofs.answer.first_role.Goals as goal

pub returns-in-Some : goal.returns-in-Some
returns-in-Some g c = record {
  least = subst (FoundIn g.S.Scale.meaning (contents_of c.args.contents.now) c.loop-number.number) c.in-Some.is c.in_ok-instance.ensures;
  none-before = λ q j b others lt bad. c.loop-number.invariant.none q lt (j, b, others, bad);
}

pub loop-number-preserved : goal.loop-number-preserved
loop-number-preserved g c =
    clear_more (BadRole g.S.Scale.meaning (contents_of c.args.contents.now)) c.loop-number.number c.loop-number.invariant
    (λ p. subst (FoundIn g.S.Scale.meaning (contents_of c.args.contents.now) c.loop-number.number) c.in_default.is c.in_ok-instance.ensures p.0 p.1 p.2 p.3)

pub returns : goal.returns
returns g c = no_role g.S.Scale.meaning (contents_of c.args.contents.now) c.roles-role-items.result.now c.roles-role-items.ensures c.loop-number.number c.loop-number-test.false c.loop-number.invariant
