-- The least instance of the first agent that has one is the least of all.
use Rattle.std.proofs.Common.{◌≡◌, ℕ, false, ◌&&◌, subst, sym, ◌∙◌, arith}
use Rattle.std.specs.List.{slice_get}
use Rattle.model.specs.Sheet.{honest, may_play}
use Rattle.model.specs.Stored.{role_of}
use Rattle.sheet.specs.Kept.{contents_of}
use Rattle.checker.proofs.Narrowing.{every_agent, found_first, found_none, not_playing}
use Rattle.checker.proofs.roles.least_below.Goals as goal
use Rattle.checker.proofs.roles.least_below.Goals.{then-is_played_by+in_ok-found+else-is_some+in-Some-1, then-is_played_by+in_ok-found+else-is_some+in-None-1, else-is_played_by}

pub returns-then-is_some : goal.returns-then-is_some
returns-then-is_some g c =
    found_first g.S.Scale.meaning (contents_of c.args.contents.now) c.args.number c.args.bound c.loop-agent.agent c.loop-agent.invariant c.in_ok-found.found (sym c.is_some.ensures ∙ c.if-is_some.true) c.in_ok-found.ensures

pub loop-agent-preserved : goal.loop-agent-preserved
loop-agent-preserved g c =
    elim c.if-is_played_by.branch [
      | then-is_played_by+in_ok-found+else-is_some+in-Some-1 w ↦
          found_none g.S.Scale.meaning (contents_of c.args.contents.now) c.args.number c.args.bound c.loop-agent.agent c.loop-agent.invariant w.in_ok-found.found (sym w.is_some.ensures ∙ w.if-is_some.false) w.in_ok-found.ensures
      | then-is_played_by+in_ok-found+else-is_some+in-None-1 w ↦
          found_none g.S.Scale.meaning (contents_of c.args.contents.now) c.args.number c.args.bound c.loop-agent.agent c.loop-agent.invariant w.in_ok-found.found (sym w.is_some.ensures ∙ w.if-is_some.false) w.in_ok-found.ensures
      | else-is_played_by w ↦
          not_playing g.S.Scale.meaning (contents_of c.args.contents.now) c.args.number c.args.bound c.loop-agent.agent c.loop-agent.invariant (role_of c.args.role.now) c.requires.is_role
          (subst (λ (n : ℕ). (honest (slice_get (contents_of c.args.contents.now).agents n) && may_play (contents_of c.args.contents.now).agents (role_of c.args.role.now).player n) ≡ false) c.from.ensures (sym c.is_played_by.ensures ∙ w.if-is_played_by.false))
    ]

pub returns : goal.returns
returns g c = every_agent g.S.Scale.meaning (contents_of c.args.contents.now) c.args.number c.args.bound c.loop-agent.agent c.requires.read c.loop-agent.invariant (omega arith)
