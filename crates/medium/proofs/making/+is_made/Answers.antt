use Rattle.std.proofs.Common.{rules}
use Rattle.std.proofs.Common.{◌≡◌, true, false, refl, sym, ◌∙◌}
use Rattle.sheet.specs.Kept.{contents_of}
use Rattle.medium.proofs.Parts.{denied, known_makes, leaf_makes, pair_makes, seal_makes}
use Rattle.medium.proofs.making.+is_made.Goals as goal

pub returns-then-is_known : goal.returns-then-is_known
returns-then-is_known t c = known_makes (contents_of c.args.sheet.now) c.args.row.bytes.now c.args.row.marks.now c.args.told.bytes.now c.args.told.marks.now c.args.bytes.now (c.is_known.ensures.0 c.if-is_known.true)

pub returns-then-is_made : goal.returns-then-is_made
returns-then-is_made t c =
    pair_makes (contents_of c.args.sheet.now) c.args.row.bytes.now c.args.row.marks.now c.args.told.bytes.now c.args.told.marks.now c.args.bytes.now _ c.in-Ok.ensures (denied c.is_known.ensures c.if-is_known.false) _ _ c.in-Pair.is c.is_made.result c.is_made-then-is_made.result c.is_made-then-is_made.result c.is_made.ensures
    (λ _. (refl, c.is_made-then-is_made.ensures))
    (λ e. let z : true ≡ false = sym c.if-is_made.true ∙ e in cc)

pub returns-else-is_made : goal.returns-else-is_made
returns-else-is_made t c =
    pair_makes (contents_of c.args.sheet.now) c.args.row.bytes.now c.args.row.marks.now c.args.told.bytes.now c.args.told.marks.now c.args.bytes.now _ c.in-Ok.ensures (denied c.is_known.ensures c.if-is_known.false) _ _ c.in-Pair.is c.is_made.result c.is_made.result c.is_made.result c.is_made.ensures
    (λ e. let z : true ≡ false = sym e ∙ c.if-is_made.false in cc)
    (λ e. e)

pub returns-then-is_known-2 : goal.returns-then-is_known-2
returns-then-is_known-2 t c =
    seal_makes (contents_of c.args.sheet.now) c.args.row.bytes.now c.args.row.marks.now c.args.told.bytes.now c.args.told.marks.now c.args.bytes.now _ c.in-Ok.ensures (denied c.is_known.ensures c.if-is_known.false) _ _ c.in-Seal.is c.is_known-in-Seal.result c.is_made-then-is_known-2.result c.is_made-then-is_known-2.result (search rules)
    (λ _. (refl, c.is_made-then-is_known-2.ensures))
    (λ e. let z : true ≡ false = sym c.if-is_known-2.true ∙ e in cc)

pub returns-else-is_known-2 : goal.returns-else-is_known-2
returns-else-is_known-2 t c =
    seal_makes (contents_of c.args.sheet.now) c.args.row.bytes.now c.args.row.marks.now c.args.told.bytes.now c.args.told.marks.now c.args.bytes.now _ c.in-Ok.ensures (denied c.is_known.ensures c.if-is_known.false) _ _ c.in-Seal.is c.is_known-in-Seal.result c.is_known-in-Seal.result c.is_known-in-Seal.result (search rules)
    (λ e. let z : true ≡ false = sym e ∙ c.if-is_known-2.false in cc)
    (λ e. e)

pub returns-in-Agent : goal.returns-in-Agent
returns-in-Agent t c = leaf_makes (contents_of c.args.sheet.now) c.args.row.bytes.now c.args.row.marks.now c.args.told.bytes.now c.args.told.marks.now c.args.bytes.now _ c.in-Ok.ensures (denied c.is_known.ensures c.if-is_known.false) c.in-Agent.is
