-- The first line that is bad for some values is the first of all.
use Rattle.std.proofs.Common.{subst}
use Rattle.sheet.specs.Kept.{contents_of}
use Rattle.checker.specs.Sealing.{FoundAt}
use Rattle.checker.proofs.Clear.{clear_more}
use Rattle.checker.proofs.Unlikes.{Lines, no_line}
use Rattle.checker.proofs.seals.first_line.Goals as goal

pub returns-in-Some : goal.returns-in-Some
returns-in-Some g c = record {
  least = subst (FoundAt g.S.Scale.meaning (contents_of c.args.contents.now) c.loop-line.line) c.in-Some.is c.in_ok-values.ensures;
  none-before = λ j others lt bad. c.loop-line.invariant.none j lt (others, bad);
}

pub loop-line-preserved : goal.loop-line-preserved
loop-line-preserved g c =
    clear_more (Lines g.S.Scale.meaning (contents_of c.args.contents.now)) c.loop-line.line c.loop-line.invariant
    (λ p. subst (FoundAt g.S.Scale.meaning (contents_of c.args.contents.now) c.loop-line.line) c.in_default.is c.in_ok-values.ensures p.0 p.1)

pub returns : goal.returns
returns g c = no_line g.S.Scale.meaning (contents_of c.args.contents.now) c.seals-ranked-items.result.now c.seals-ranked-items.ensures c.loop-line.line c.loop-line-test.false c.loop-line.invariant
