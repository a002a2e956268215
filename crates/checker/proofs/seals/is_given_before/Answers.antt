-- Each line is looked at, as far as the number.
use Rattle.std.proofs.Common.{◌<◌, arith}
use Rattle.std.proofs.lemmas.Bool.{false≢true}
use Rattle.std.proofs.Common.{sym, ◌∙◌}
use Rattle.sheet.specs.Kept.{contents_of}
use Rattle.checker.specs.Sealing.{GivenAt}
use Rattle.checker.proofs.Clear.{clear_more}
use Rattle.checker.proofs.Unlikes.{given_here, is_given, none_given, not_given_here}
use Rattle.checker.proofs.seals.is_given_before.Goals as goal
use Rattle.checker.proofs.seals.is_given_before.Goals.{else-j-number-via-then-j-number+else-gives_bytes, else-j-number-via-else-j-number}

pub returns-then-gives_bytes : goal.returns-then-gives_bytes
returns-then-gives_bytes c =
    is_given (contents_of c.args.contents.now) c.args.number c.args.bytes.now c.loop-j.j c.if-j-number.true
    (given_here (contents_of c.args.contents.now) c.args.bytes.now c.loop-j.j c.seals-line-items.result.now c.seals-line-items.ensures c.line-item.result c.loop-j-test.true c.line-item.is c.free.result.now c.free.ensures (c.gives_bytes.ensures.0 c.if-gives_bytes.true))

pub loop-j-preserved : goal.loop-j-preserved
loop-j-preserved c =
    clear_more (λ j. (j < c.args.number) × GivenAt (contents_of c.args.contents.now) c.args.bytes.now j) c.loop-j.j c.loop-j.invariant
    (elim c.else-j-number.branch [
      | else-j-number-via-then-j-number+else-gives_bytes w ↦ λ p.
          not_given_here (contents_of c.args.contents.now) c.args.bytes.now c.loop-j.j c.seals-line-items.result.now c.seals-line-items.ensures c.line-item.result c.loop-j-test.true c.line-item.is w.free.result.now w.free.ensures
          (λ g. false≢true (sym w.if-gives_bytes.false ∙ w.gives_bytes.ensures.1 g)) p.1
      | else-j-number-via-else-j-number w ↦ λ p. let lt : c.loop-j.j < c.args.number = p.0 in omega (arith, lt, w.if-j-number.false)
    ])

pub returns : goal.returns
returns c = none_given (contents_of c.args.contents.now) c.args.number c.args.bytes.now c.seals-line-items.result.now c.seals-line-items.ensures c.loop-j.j c.loop-j-test.false c.loop-j.invariant
