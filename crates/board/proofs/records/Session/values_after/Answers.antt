use Rattle.model.specs.Stored.{role_of, term_of}
use Rattle.board.proofs.Turning.{values_answer}
use Rattle.board.proofs.records.Session.values_after.Goals as goal

pub returns : goal.returns
returns c =
    let (k, reads, are) = c.requires.pieces in
    values_answer c.names_refer.ensures c.args.sheet.now c.args.self.now (role_of c.args.received.role.now) (term_of c.args.received.term.now) c.requires.receives c.args.bytes.now k reads c.args.pieces.now are c.bound.result (rw c.as_slice.ensures.all at c.bound.ensures)
