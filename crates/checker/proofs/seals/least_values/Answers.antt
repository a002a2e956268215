-- The pieces are those of the line, so what the search finds is what is looked for.
use Rattle.std.proofs.Common.{ap, sym, ◌∙◌}
use Rattle.model.specs.Stored.{ranked_of, sealed_of}
use Rattle.sheet.specs.Kept.{contents_of}
use Rattle.checker.specs.Rows.{fitted}
use Rattle.checker.proofs.Rowing.{made_open_places, made_seal_slots}
use Rattle.checker.proofs.SealTesting.{none_found, some_found}
use Rattle.checker.proofs.seals.least_values.Goals as goal

pub returns-in_default : goal.returns-in_default
returns-in_default g c =
    let slots = made_seal_slots (sealed_of c.args.line.now.what) (contents_of c.args.contents.now) c.free.result.now c.free.ensures c.in_ok-slots.slots.items c.deref-3.result.now c.deref-3.ensures.value c.in_ok-slots.ensures in
    let places = made_open_places (sealed_of c.args.line.now.what) (contents_of c.args.contents.now) c.free.result.now c.free.ensures c.in_ok-slots.slots.items c.deref.result.now c.deref.ensures.value c.in_ok-slots.ensures
    c.in_ok-choices.choices.items c.deref-2.result.now c.in_ok-places.places.items c.deref-4.result.now c.in_ok-choices.ensures c.deref-2.ensures.value c.in_ok-places.ensures c.deref-4.ensures.value in
    none_found g.S.Scale.meaning (contents_of c.args.contents.now) c.args.number (ranked_of sealed_of c.args.line.now) c.requires.is_line c.requires.read c.deref-3.result.now slots c.counts.result c.counts.ensures c.deref-4.result.now places
    c.in_ok-row.field-0 c.in_ok-row.ensures.all
    c.in_default.is

pub returns : goal.returns
returns g c =
    let slots = made_seal_slots (sealed_of c.args.line.now.what) (contents_of c.args.contents.now) c.free.result.now c.free.ensures c.in_ok-slots.slots.items c.deref-3.result.now c.deref-3.ensures.value c.in_ok-slots.ensures in
    let places = made_open_places (sealed_of c.args.line.now.what) (contents_of c.args.contents.now) c.free.result.now c.free.ensures c.in_ok-slots.slots.items c.deref.result.now c.deref.ensures.value c.in_ok-slots.ensures
    c.in_ok-choices.choices.items c.deref-2.result.now c.in_ok-places.places.items c.deref-4.result.now c.in_ok-choices.ensures c.deref-2.ensures.value c.in_ok-places.ensures c.deref-4.ensures.value in
    some_found g.S.Scale.meaning (contents_of c.args.contents.now) c.args.number (ranked_of sealed_of c.args.line.now) c.requires.is_line c.requires.read c.deref-3.result.now slots c.counts.result c.counts.ensures c.deref-4.result.now places
    c.in_ok-row.field-0 c.in_ok-row.ensures.all
    c.in-Some.row c.in-Some.is c.deref-6.result.now c.deref-6.ensures.value c.in-Some-fill.values.items c.in_ok-kept.field-0.items c.in_ok-kept.ensures
    (ap (λ ks. fitted ks c.deref-6.result.now) (c.deref-3.ensures.value ∙ sym c.deref-5.ensures.value) ∙ sym c.in-Some-fill.ensures)
