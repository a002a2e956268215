use Rattle.std.proofs.Common.{◌≡◌, ℕ, ◌+◌, ◌≤◌, ◌<◌, [], length, take, refl, sym, ap, subst, ◌∙◌, arith}
use Rattle.std.proofs.lemmas.Option.{slice_get-get_or}
use Rattle.board.specs.declared.acts.Act.TheVariants as act
use Rattle.board.specs.Rehearsing as acts
use Rattle.board.specs.Rehearsing.{declined_by}
use Rattle.board.proofs.Rehearsed.{leads_first, leads_further, leads_guarded, none_declined, one_declined, plays_further}
use Rattle.board.proofs.acts.rehearse.Goals as goal
use Rattle.board.proofs.acts.rehearse.Goals.{then-is_err, else-is_err}

pub loop-act-init : goal.loop-act-init
loop-act-init g c = record {
  plays = acts.none;
  few = omega arith;
  sheet = refl;
  leads = leads_first g.M.Medium.meaning c.args.board.now c.args.medium.now;
}

pub loop-act-preserved : goal.loop-act-preserved
loop-act-preserved g c =
    let h = c.loop-act.invariant in
    let p = c.play.ensures in
    let i = c.loop-act.act-index in
    let within : i < length c.args.acts.now = omega arith in
    let at = slice_get-get_or c.args.acts.now i (act.Start 0 0 []) within in
    let many : c.if-is_err.declined ≡ c.loop-act.declined + declined_by c.play.result =
    elim c.if-is_err.branch [
      | then-is_err w ↦ w.declined-is ∙ ap (λ n. c.loop-act.declined + n) (sym (one_declined c.play.result (sym c.is_err.ensures.value ∙ w.if-is_err.true)))
      | else-is_err w ↦ omega (arith, w.declined-is, none_declined c.play.result (sym c.is_err.ensures.value ∙ w.if-is_err.false))
    ] in
    let few : c.if-is_err.declined ≤ i + 1 = elim c.if-is_err.branch [ then-is_err w ↦ omega (arith, w.declined-is, h.few) | else-is_err w ↦ omega (arith, w.declined-is, h.few) ] in
    record {
      plays = subst (λ (n : ℕ). acts.Plays g.M.Medium.meaning g.M.Medium.steps c.args.board.now c.args.medium.now (take (i + 1) c.args.acts.now) c.play.new.board c.play.new.medium n) (sym many)
          (plays_further g.M.Medium.meaning g.M.Medium.steps c.args.board.now c.loop-act.board c.play.new.board c.args.medium.now c.loop-act.medium c.play.new.medium c.args.acts.now i c.loop-act.declined _ c.play.result at h.plays p.does);
      few = few;
      sheet = p.sheet ∙ h.sheet;
      leads = leads_further g.M.Medium.meaning c.args.board.now c.loop-act.board c.play.new.board c.args.medium.now c.loop-act.medium c.play.new.medium h.leads h.sheet p.call;
    }

pub returns-clause-guarded : goal.returns-clause-guarded
returns-clause-guarded g c =
    leads_guarded g.M.Medium.meaning g.S.Scale.meaning c.log_is_guarded.ensures c.claims_are_of_two_events.ensures c.args.board.now c.loop-act.board c.args.medium.now c.loop-act.medium c.is_read.ensures c.loop-act.invariant.leads
