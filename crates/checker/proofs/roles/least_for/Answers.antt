-- The pieces are those of the role where the agent plays it, so what the search finds is what is looked for.
use Rattle.std.proofs.Common.{map, take, refl}
use Rattle.model.specs.Stored.{role_of, step_of}
use Rattle.sheet.specs.Kept.{contents_of}
use Rattle.checker.proofs.LeastRows.{none_found, some_broken, some_found}
use Rattle.checker.proofs.Rowing.{made_choices, made_places, made_slots, made_steps}
use Rattle.checker.proofs.roles.least_for.Goals as goal

pub returns-in_default : goal.returns-in_default
returns-in_default g c =
    let slots = made_slots c.args.role.now.variables.items c.deref.result.now c.in_ok-slots.slots.items c.deref-5.result.now c.deref.ensures.value c.in_ok-slots.ensures c.deref-5.ensures.value in
    let steps = made_steps c.args.bound c.args.role.now.steps.items c.deref-4.result.now c.deref-4.ensures.value in
    let choices = made_choices (contents_of c.args.contents.now) c.args.number c.args.agent c.from.result c.args.role.now.variables.items c.deref-2.result.now _ c.from.ensures c.deref-2.ensures.value c.in_ok-choices.ensures in
    let places = made_places c.in_ok-choices.choices.items c.deref-3.result.now c.in_ok-places.places.items c.deref-6.result.now _ choices c.deref-3.ensures.value c.in_ok-places.ensures c.deref-6.ensures.value in
    none_found g.S.Scale.meaning (contents_of c.args.contents.now) c.requires.read c.args.number c.args.agent c.args.bound (role_of c.args.role.now) c.requires.is_role c.requires.is_honest c.requires.plays c.deref-5.result.now slots (map step_of (take c.args.bound c.deref-4.result.now)) steps c.counts.result c.counts.ensures c.deref-6.result.now places
    c.in_ok-row.field-0 c.in_ok-row.ensures.all
    c.in_default.is

-- The least row breaks the test, so a step is found.
pub returns-in_default-try_row : goal.returns-in_default-try_row
returns-in_default-try_row g c =
    let slots = made_slots c.args.role.now.variables.items c.deref.result.now c.in_ok-slots.slots.items c.deref-5.result.now c.deref.ensures.value c.in_ok-slots.ensures c.deref-5.ensures.value in
    let steps = made_steps c.args.bound c.args.role.now.steps.items c.deref-4.result.now c.deref-4.ensures.value in
    let choices = made_choices (contents_of c.args.contents.now) c.args.number c.args.agent c.from.result c.args.role.now.variables.items c.deref-2.result.now _ c.from.ensures c.deref-2.ensures.value c.in_ok-choices.ensures in
    let places = made_places c.in_ok-choices.choices.items c.deref-3.result.now c.in_ok-places.places.items c.deref-6.result.now _ choices c.deref-3.ensures.value c.in_ok-places.ensures c.deref-6.ensures.value in
    absurd (some_broken g.S.Scale.meaning (contents_of c.args.contents.now) c.requires.read c.args.number c.args.agent c.args.bound (role_of c.args.role.now) c.requires.is_role c.requires.is_honest c.requires.plays c.deref-5.result.now slots (map step_of (take c.args.bound c.deref-4.result.now)) steps c.counts.result c.counts.ensures c.deref-6.result.now places
    c.in_ok-row.field-0 c.in_ok-row.ensures.all
    c.in-Some.row c.in-Some.is c.deref-7.result.now c.deref-7.ensures.value c.in_default-try_row.ensures)

pub returns : goal.returns
returns g c =
    let slots = made_slots c.args.role.now.variables.items c.deref.result.now c.in_ok-slots.slots.items c.deref-5.result.now c.deref.ensures.value c.in_ok-slots.ensures c.deref-5.ensures.value in
    let steps = made_steps c.args.bound c.args.role.now.steps.items c.deref-4.result.now c.deref-4.ensures.value in
    let choices = made_choices (contents_of c.args.contents.now) c.args.number c.args.agent c.from.result c.args.role.now.variables.items c.deref-2.result.now _ c.from.ensures c.deref-2.ensures.value c.in_ok-choices.ensures in
    let places = made_places c.in_ok-choices.choices.items c.deref-3.result.now c.in_ok-places.places.items c.deref-6.result.now _ choices c.deref-3.ensures.value c.in_ok-places.ensures c.deref-6.ensures.value in (
      refl,
      some_found g.S.Scale.meaning (contents_of c.args.contents.now) c.requires.read c.args.number c.args.agent c.args.bound (role_of c.args.role.now) c.requires.is_role c.requires.is_honest c.requires.plays c.deref-5.result.now slots (map step_of (take c.args.bound c.deref-4.result.now)) steps c.counts.result c.counts.ensures c.deref-6.result.now places
          c.in_ok-row.field-0 c.in_ok-row.ensures.all
          c.in-Some.row c.in-Some.is c.deref-7.result.now c.deref-7.ensures.value c.in-Some-try_row.found.step c.in-Some-try_row.found.values.items c.in_ok-kept.field-0.items c.in_ok-kept.ensures c.in-Some-try_row.ensures,
    )
