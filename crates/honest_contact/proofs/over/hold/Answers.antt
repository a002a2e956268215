use Rattle.honest_contact.proofs.over.hold.Goals as goal

pub returns-clause-held : goal.returns-clause-held
returns-clause-held g c = record {
  before = c.new-board.result;
  on = c.new-board.ensures.sheet;
  new = record { no-session = c.new-board.ensures.no_session; no-event = c.new-board.ensures.no_event };
  sessions-table = c.new-board.ensures.sessions;
  log-table = c.new-board.ensures.log;
  after = c.contact-declined.new.board;
  declined = c.contact-declined.result;
  contacts = c.contact-declined.ensures.contacts;
  tells = c.tell.ensures;
}
