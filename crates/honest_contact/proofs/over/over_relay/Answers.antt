use Rattle.std.proofs.Common.{rules, sym}
use Rattle.honest_contact.proofs.over.over_relay.Goals as goal

pub returns-clause-held : goal.returns-clause-held
returns-clause-held c = record {
  contents = _;
  is-read = sym c.in_ok-contents.ensures.contents;
  lent = _;
  lent-is = search rules;
  before = c.new_relay-relay.result;
  new = c.new_relay-relay.ensures.new;
  after = c.hold.new.medium;
  held = c.hold.ensures.held;
}

pub returns-clause-reached : goal.returns-clause-reached
returns-clause-reached c enough long = c.hold.ensures.reached enough (c.new_relay-relay.ensures.carries (search (rules, long)))
