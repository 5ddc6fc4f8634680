-- The front copied and the inverted arcs behind it.
use Rattle.std.proofs.Common.{sym, refl, ◌∙◌, arith}
use Rattle.transducer.proofs.Offsets.{length_accepted, length_finals, accepted_within}
use Rattle.reach.proofs.Sized.{slice_bytes, opened_sized}
use Rattle.derived.proofs.InvertedWritten.{inverts}
use Rattle.derived.proofs.invert.invert_into.Goals as goal

pub copy_front-requires : goal.copy_front-requires
copy_front-requires c =
    let bs = c.args.table.now in
    let bytes = slice_bytes bs c.type_inv.table in
    let e = c.shape_of-shape.ensures in
    let r = accepted_within bs bytes c.requires.0 in (
      omega (arith, e.opened.first_is, e.finals_are, length_accepted bs bytes c.requires.0),
      omega (arith, e.opened.first_is, r.finals, r.states, c.requires.2),
    )

pub put_inverted-requires : goal.put_inverted-requires
put_inverted-requires c =
    let e = c.shape_of-shape.ensures in
    let r = accepted_within c.args.table.now (slice_bytes c.args.table.now c.type_inv.table) c.requires.0 in
    (e.opened, e.arcs_are, omega (arith, e.opened.first_is, e.arcs_are, (opened_sized c.type_inv.table e.opened).arcs, r.finals, r.states, c.copy_front.auto, c.requires.2))

pub overflow_mul-result : goal.overflow_mul-result
overflow_mul-result c = let e = c.shape_of-shape.ensures in omega (arith, e.arcs_are, (opened_sized c.type_inv.table e.opened).arcs)

pub overflow_add-result : goal.overflow_add-result
overflow_add-result c =
    let e = c.shape_of-shape.ensures in
    let r = accepted_within c.args.table.now (slice_bytes c.args.table.now c.type_inv.table) c.requires.0 in
    omega (arith, e.opened.first_is, e.arcs_are, (opened_sized c.type_inv.table e.opened).arcs, r.finals, r.states)

pub returns : goal.returns
returns c =
    let s = c.shape_of-shape in
    let e = s.ensures in
    let bs = c.args.table.now in
    let bytes = slice_bytes bs c.type_inv.table in
    let r = accepted_within bs bytes c.requires.0 in
    inverts bs bytes c.requires.0 s.result.finals s.result.arcs s.result.first _ _ _
    (e.finals_are ∙ sym (length_finals bs bytes c.requires.0)) e.arcs_are (omega (arith, e.opened.first_is, e.finals_are))
    (omega (arith, e.opened.first_is, e.arcs_are, (opened_sized c.type_inv.table e.opened).arcs, r.finals, r.states, c.copy_front.auto, c.requires.2)) c.copy_front.ensures
    c.put_inverted.ensures refl
