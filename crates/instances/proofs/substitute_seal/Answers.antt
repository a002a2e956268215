-- What is written is the whole seal, which never passes 96 bytes.
use Rattle.model.specs.Stored.{term_of}
use Rattle.instances.specs.Writing.{values_of}
use Rattle.instances.proofs.Fronts.{seal_none, seal_whole}
use Rattle.instances.proofs.substitute_seal.Goals as goal

pub returns-in_err-write : goal.returns-in_err-write
returns-in_err-write c =
    rw c.from_residual-in_err-write.ensures
    (seal_none (values_of c.args.values.now) c.args.seal.now.first c.args.seal.now.second c.new-out.result c.new-out.ensures (term_of c.args.seal.now.content) c.nodes.result.now c.nodes.ensures.order c.nodes.ensures.short c.write_seal.new.out c.in_ok-write_seal.ensures c.in_err-write.ensures)

pub returns : goal.returns
returns c =
    seal_whole (values_of c.args.values.now) c.args.seal.now.first c.args.seal.now.second c.new-out.result c.new-out.ensures (term_of c.args.seal.now.content) c.nodes.result.now c.nodes.ensures.order c.nodes.ensures.short c.write_seal.new.out c.in_ok-write_seal.ensures c.in_ok-write.ensures
