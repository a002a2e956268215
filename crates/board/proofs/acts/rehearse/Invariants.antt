use Rattle.std.proofs.Common.{◌≡◌, ◌≤◌, take}
use Rattle.board.specs.Rehearsing.{Plays}
use Rattle.board.proofs.Rehearsed.{Leads}
use Rattle.board.proofs.acts.rehearse.Given as goal

abbrev pub invariant-loop-act : goal.invariant-loop-act
invariant-loop-act g l = record {
  plays : Plays g.M.Medium.meaning g.M.Medium.steps l.fn.board l.fn.medium (take l.act-index l.acts) l.board l.medium l.declined;
  few : l.declined ≤ l.act-index;
  sheet : l.board.sheet.now ≡ l.fn.board.sheet.now;
  leads : Leads g.M.Medium.meaning l.fn.board l.fn.medium l.board l.medium;
}
