use Rattle.std.proofs.Common.{◌&&◌, refl, sym, ◌∙◌, vec_items}
use Rattle.std.proofs.lemmas.Bool.Decides.{Decides-at}
use Rattle.sheet.specs.Kept.{contents_of}
use Rattle.ranks.proofs.Valuing.{kept, valued_kept}
use Rattle.ranks.proofs.valued.is_valued.Goals as goal

pub returns-then-are_valued-2 : goal.returns-then-are_valued-2
returns-then-are_valued-2 g c =
    let scale = g.S.Scale.meaning in
    let last = c.are_valued-then-are_valued-2.result in
    Decides-at
    last
    (c.are_valued.result && (c.are_valued-then-are_valued.result && last))
    (λ i. sym c.if-are_valued.true i && (sym c.if-are_valued-2.true i && last))
    (valued_kept scale (contents_of c.args.contents.now) _ _ _ c.atoms.ensures c.seals.ensures c.marks.ensures c.are_valued.result c.are_valued-then-are_valued.result last c.are_valued.ensures c.are_valued-then-are_valued.ensures c.are_valued-then-are_valued-2.ensures)

pub returns-else-are_valued-2 : goal.returns-else-are_valued-2
returns-else-are_valued-2 g c =
    let scale = g.S.Scale.meaning in
    let marks = vec_items c.args.contents.now.marks in
    let last = c.are_valued-then-are_valued.result in
    Decides-at
    last
    (c.are_valued.result && (last && kept scale marks))
    (c.if-are_valued-2.false ∙ (λ i. sym c.if-are_valued.true i && (sym c.if-are_valued-2.false i && kept scale marks)))
    (valued_kept scale (contents_of c.args.contents.now) _ _ marks c.atoms.ensures c.seals.ensures refl c.are_valued.result last (kept scale marks) c.are_valued.ensures c.are_valued-then-are_valued.ensures refl)

pub returns-else-are_valued : goal.returns-else-are_valued
returns-else-are_valued g c =
    let scale = g.S.Scale.meaning in
    let seals = vec_items c.args.contents.now.seals in
    let marks = vec_items c.args.contents.now.marks in
    Decides-at
    c.are_valued.result
    (c.are_valued.result && (kept scale seals && kept scale marks))
    (c.if-are_valued.false ∙ (λ i. sym c.if-are_valued.false i && (kept scale seals && kept scale marks)))
    (valued_kept scale (contents_of c.args.contents.now) _ seals marks c.atoms.ensures refl refl c.are_valued.result (kept scale seals) (kept scale marks) c.are_valued.ensures refl refl)
