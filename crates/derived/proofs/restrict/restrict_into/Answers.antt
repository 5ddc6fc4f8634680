-- The front copied, the arcs within the bound behind it, and the head written anew.
use Rattle.std.proofs.Common.{to_z, of_z, w64, sym, refl, ◌∙◌, arith}
use Rattle.std.proofs.Math.Facts.{to_z-of_z}
use Rattle.transducer.specs.Format.{decode}
use Rattle.transducer.proofs.Offsets.{length_accepted, length_finals, accepted_within}
use Rattle.reach.proofs.Sized.{slice_bytes, opened_sized}
use Rattle.derived.specs.Restricted.{unchanged, within_bound}
use Rattle.trim.proofs.Passing.{passing_few}
use Rattle.derived.proofs.RestrictedWritten.{restricts, restricts_by}
use Rattle.derived.proofs.restrict.restrict_into.Goals as goal

pub copy_front-requires : goal.copy_front-requires
copy_front-requires c =
    let bs = c.args.table.now in
    let bytes = slice_bytes bs c.type_inv.table in
    let e = c.shape_of-shape.ensures in
    let r = accepted_within bs bytes c.requires.0 in (
      omega (arith, e.opened.first_is, e.finals_are, length_accepted bs bytes c.requires.0),
      omega (arith, e.opened.first_is, r.finals, r.states, c.requires.3),
    )

pub put_within-count-requires : goal.put_within-count-requires
put_within-count-requires c =
    let e = c.shape_of-shape.ensures in
    let r = accepted_within c.args.table.now (slice_bytes c.args.table.now c.type_inv.table) c.requires.0 in
    let size = opened_sized c.type_inv.table e.opened in (
      e.opened,
      e.arcs_are,
      c.requires.1,
      c.requires.2,
      omega (arith, e.opened.first_is, e.arcs_are, size.arcs, r.finals, r.states, c.copy_front.auto, c.requires.3),
      omega (arith, e.arcs_are, size.arcs, c.requires.4),
    )

pub overflow_cast-count : goal.overflow_cast-count
overflow_cast-count c =
    let f = within_bound c.args.coming.now c.args.rest.now (to_z w64 (of_z w64 c.args.most)) in
    let size = opened_sized c.type_inv.table c.shape_of-shape.ensures.opened in
    omega (arith, c.put_within-count.ensures.count_is, passing_few f unchanged (decode c.args.table.now).arcs, size.arcs)

pub overflow_cast-shape-2 : goal.overflow_cast-shape-2
overflow_cast-shape-2 c =
    let r = accepted_within c.args.table.now (slice_bytes c.args.table.now c.type_inv.table) c.requires.0 in
    omega (arith, c.shape_of-shape.ensures.finals_are, r.finals, r.states)

pub overflow_mul-result : goal.overflow_mul-result
overflow_mul-result c =
    let f = within_bound c.args.coming.now c.args.rest.now (to_z w64 (of_z w64 c.args.most)) in
    let size = opened_sized c.type_inv.table c.shape_of-shape.ensures.opened in
    omega (arith, c.put_within-count.ensures.count_is, passing_few f unchanged (decode c.args.table.now).arcs, size.arcs)

pub overflow_add-result : goal.overflow_add-result
overflow_add-result c =
    let f = within_bound c.args.coming.now c.args.rest.now (to_z w64 (of_z w64 c.args.most)) in
    let e = c.shape_of-shape.ensures in
    let size = opened_sized c.type_inv.table e.opened in
    let r = accepted_within c.args.table.now (slice_bytes c.args.table.now c.type_inv.table) c.requires.0 in
    omega (
      arith,
      e.opened.first_is,
      c.put_within-count.ensures.count_is,
      passing_few f unchanged (decode c.args.table.now).arcs,
      size.arcs,
      r.finals,
      r.states,
    )

pub returns : goal.returns
returns c =
    let s = c.shape_of-shape in
    let e = s.ensures in
    let bs = c.args.table.now in
    let bytes = slice_bytes bs c.type_inv.table in
    let r = accepted_within bs bytes c.requires.0 in
    let size = opened_sized c.type_inv.table e.opened in
    let p = c.put_within-count in
    let few = passing_few (within_bound c.args.coming.now c.args.rest.now (to_z w64 (of_z w64 c.args.most))) unchanged (decode bs).arcs in
    restricts_by c.args.coming.now c.args.rest.now _ _ (decode bs) c.args.numbers.now (to_z-of_z c.ranges.most)
    (restricts _ bs bytes c.requires.0 s.result.states s.result.finals s.result.start s.result.first p.result _ _ _ _ _ _ e.states_are
    (e.finals_are ∙ sym (length_finals bs bytes c.requires.0)) e.start_is (omega (arith, e.opened.first_is, e.finals_are))
    (omega (arith, e.opened.first_is, p.ensures.count_is, few, size.arcs, r.finals, r.states, c.copy_front.auto, c.requires.3))
    c.copy_front.ensures p.ensures p.auto.out c.put_head.ensures refl)
