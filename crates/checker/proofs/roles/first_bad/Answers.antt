-- The bound falls to what is found, until nothing is.
use Rattle.std.proofs.Common.{length, subst, sym}
use Rattle.std.proofs.lemmas.List.{length-map}
use Rattle.model.specs.Stored.{role_of, step_of}
use Rattle.sheet.specs.Kept.{contents_of}
use Rattle.checker.specs.Narrowing.{FoundBelow}
use Rattle.checker.proofs.Narrowing.{narrowed_last, narrowed_more}
use Rattle.checker.proofs.roles.first_bad.Goals as goal

pub loop-found-preserved : goal.loop-found-preserved
loop-found-preserved g c =
    narrowed_more g.S.Scale.meaning (contents_of c.args.contents.now) c.args.number (length c.args.role.now.steps.items) c.loop-found.bound c.loop-found.found c.loop-found.invariant c.in-Some.instance
    (subst (FoundBelow g.S.Scale.meaning (contents_of c.args.contents.now) c.args.number c.loop-found.bound) c.in-Some.is c.in_ok-instance.ensures)

pub returns : goal.returns
returns g c =
    narrowed_last g.S.Scale.meaning (contents_of c.args.contents.now) c.args.number (length c.args.role.now.steps.items) c.loop-found.bound (role_of c.args.role.now) c.requires.is_role
    (sym (length-map c.args.role.now.steps.items step_of)) c.loop-found.found c.loop-found.invariant
    (subst (FoundBelow g.S.Scale.meaning (contents_of c.args.contents.now) c.args.number c.loop-found.bound) c.in_default.is c.in_ok-instance.ensures)
