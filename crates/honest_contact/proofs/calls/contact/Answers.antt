use Rattle.honest_contact.proofs.calls.contact.Goals as goal
use Rattle.honest_contact.proofs.Reaching.{contact_succeeds}

pub returns-clause-succeeds : goal.returns-clause-succeeds
returns-clause-succeeds g c prepared carries =
    contact_succeeds g.M.Medium.meaning g.M.Medium.steps c.values_are_single.ensures c.args.board.now c.play.new.board c.args.medium.now c.play.new.medium c.play.result prepared carries
    c.play.ensures.contacts
