use Rattle.std.proofs.Common.{rules, sym}
use Rattle.honest_contact.proofs.over.over_enemy.Goals as goal

pub returns-clause-held : goal.returns-clause-held
returns-clause-held c = record {
  contents = _;
  is-read = sym c.in-Some.ensures.contents;
  lent = _;
  lent-is = search rules;
  lent-marks = _;
  marks-are = search rules;
  before = c.in_ok-enemy.enemy;
  new = c.in_ok-enemy.ensures.new;
  after = c.hold.new.medium;
  held = c.hold.ensures.held;
}

pub returns-clause-reached : goal.returns-clause-reached
returns-clause-reached c enough long marks-long =
    c.hold.ensures.reached enough (c.in_ok-enemy.ensures.carries (search (rules, long)) (search (rules, marks-long)))
