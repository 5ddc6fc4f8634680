-- What is counted and written goes to the law `closes`.
use Rattle.std.proofs.Common.{rules, refl, ap, ℕ, ◌-◌}
use Rattle.lattice.specs.Applying.{arcs_place}
use Rattle.lattice.proofs.Closing.{told_room, whole_long, part_room, closes}
use Rattle.lattice.proofs.applying.close.Goals as goal

pub slice_bounds-part-count : goal.slice_bounds-part-count
slice_bounds-part-count c = search (rules, whole_long c.args.codes.now c.args.last c.requires.0.2 c.args.table.now refl)

pub slice_bounds-part-start : goal.slice_bounds-part-start
slice_bounds-part-start c = search (rules, whole_long c.args.codes.now c.args.last c.requires.0.2 c.args.table.now refl)

pub put_finals-requires : goal.put_finals-requires
put_finals-requires c =
    let x = c.args in
    let told = c.requires.0.2 in
    let room = told_room x.codes.now x.last told in
    let count = c.final_count-finals in (
      room.0,
      room.1,
      part_room x.codes.now x.last told x.table.now refl count.result _ count.ensures.0 count.ensures.1 c.arcs_at-from.ensures,
      c.requires.2,
    )

pub put_head-requires : goal.put_head-requires
put_head-requires c = search (rules, whole_long c.args.codes.now c.args.last c.requires.0.2 c.args.table.now refl)

pub returns : goal.returns
returns c =
    let x = c.args in
    let count = c.final_count-finals in
    λ b origins told. closes x.codes.now x.last told x.table.now refl c.requires.1 count.result _ _ _ _ _
    count.ensures.0 count.ensures.1 (ap (λ (k : ℕ). arcs_place - k) c.arcs_at-from.ensures) refl c.put_finals.ensures c.put_head.ensures refl
