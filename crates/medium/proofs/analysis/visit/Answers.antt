use Rattle.std.proofs.Common.{◌≡◌, true, false, inl, inr, sym, ◌∙◌}
use Rattle.sheet.specs.Kept.{contents_of}
use Rattle.medium.proofs.Visiting.{paired, sealed, first_within, second_within, content_within, none_visited, pair_visited, seal_visited, shut_visited, leaf_visited}
use Rattle.medium.proofs.analysis.visit.Goals as goal

pub returns-in_default : goal.returns-in_default
returns-in_default c = none_visited _ _ _ _ c.args.i _ c.in_default.ensures

pub mark-fresh-requires-clause-within : goal.mark-fresh-requires-clause-within
mark-fresh-requires-clause-within c = first_within _ _ _ (paired c.args.bytes.now c.args.i _ _ _ c.in-Some.ensures c.in-Pair.is)

pub mark-requires-clause-within : goal.mark-requires-clause-within
mark-requires-clause-within c = second_within _ _ _ (paired c.args.bytes.now c.args.i _ _ _ c.in-Some.ensures c.in-Pair.is)

pub mark-requires-then-is_known-clause-within : goal.mark-requires-then-is_known-clause-within
mark-requires-then-is_known-clause-within c = content_within _ _ _ (sealed c.args.bytes.now c.args.i _ _ _ c.in-Some.ensures c.in-Seal.is)

pub returns-then-mark : goal.returns-then-mark
returns-then-mark c =
    pair_visited (contents_of c.args.sheet.now) c.args.bytes.now c.args.other.bytes.now c.args.other.marks.now c.args.i c.args.marks.now c.mark-fresh.new.marks c.mark.new.marks _ c.mark-fresh.result c.mark.result c.mark.result c.requires.long c.requires.marked (paired c.args.bytes.now c.args.i _ _ _ c.in-Some.ensures c.in-Pair.is) c.mark-fresh.ensures c.mark.ensures
    (λ e. let z : true ≡ false = sym c.if-mark.true ∙ e in cc)
    (λ e. inr e)

pub returns-else-mark : goal.returns-else-mark
returns-else-mark c =
    pair_visited (contents_of c.args.sheet.now) c.args.bytes.now c.args.other.bytes.now c.args.other.marks.now c.args.i c.args.marks.now c.mark-fresh.new.marks c.mark.new.marks _ c.mark-fresh.result c.mark.result c.mark-fresh.result c.requires.long c.requires.marked (paired c.args.bytes.now c.args.i _ _ _ c.in-Some.ensures c.in-Pair.is) c.mark-fresh.ensures c.mark.ensures
    (λ e. (e, c.if-mark.false))
    (λ e. inl e)

pub returns-then-is_known : goal.returns-then-is_known
returns-then-is_known c =
    seal_visited (contents_of c.args.sheet.now) c.args.bytes.now c.args.other.bytes.now c.args.other.marks.now c.args.i c.args.marks.now c.mark-then-is_known.new.marks _ c.mark-then-is_known.result c.requires.long c.requires.marked (sealed c.args.bytes.now c.args.i _ _ _ c.in-Some.ensures c.in-Seal.is) (c.is_known.ensures.0 c.if-is_known.true) c.mark-then-is_known.ensures

pub returns-else-is_known : goal.returns-else-is_known
returns-else-is_known c =
    rw c.if-is_known.false
    (shut_visited (contents_of c.args.sheet.now) c.args.bytes.now c.args.other.bytes.now c.args.other.marks.now c.args.i c.args.marks.now _ (sealed c.args.bytes.now c.args.i _ _ _ c.in-Some.ensures c.in-Seal.is)
    (λ h. let z : true ≡ false = sym (c.is_known.ensures.1 h) ∙ c.if-is_known.false in cc))

pub returns-in-Agent : goal.returns-in-Agent
returns-in-Agent c = leaf_visited (contents_of c.args.sheet.now) c.args.bytes.now c.args.other.bytes.now c.args.other.marks.now c.args.i c.args.marks.now _ c.in-Some.ensures c.in-Agent.is
