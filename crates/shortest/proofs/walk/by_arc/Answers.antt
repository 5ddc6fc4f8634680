-- What `sum` makes of the arc that was read and its target's cost, the labels that the arc writes, and one arc more.
use Rattle.std.proofs.Common.{◌≡◌, ℕ, ◌+◌, ◌<◌, ◌∙◌, ap, arith, length, get_or, w32, to_z-of_z}
use Rattle.transducer.specs.declared.Arc.{Arc}
use Rattle.transducer.specs.Format.{Transducer, decode}
use Rattle.transducer.specs.Path.{arc}
use Rattle.reach.proofs.Sized.{Sized, sized}
use Rattle.relax.specs.Tentative.{unpacked, by_state, longer, size_by}
use Rattle.relax.proofs.Bounds.{cell_back, cell_most, weight_back, read_good, sum_by_arc}
use Rattle.relax.proofs.Packed.{unpack_longer}
use Rattle.shortest.proofs.walk.by_arc.Goals as goal

-- Its target is a state, for which there are cells.
is_state : (t : Transducer) → Sized t → (i : ℕ) → i < length t.arcs → (a : Arc) → a ≡ arc t i → a.target < t.states
is_state t z i below a is =
    let target = ap (λ (x : Arc). x.target) is in
    omega (arith, target, z.within.arrives i below)

pub bounds-costs-to : goal.bounds-costs-to
bounds-costs-to c =
    let z = sized c.args.table.now (λ i. (c.type_inv.table i).fits) c.requires.0.accepted in
    omega (arith, is_state (decode c.args.table.now) z c.args.i c.requires.1 c.arc_of-a.result c.arc_of-a.ensures, c.requires.2.costs)

pub sum-requires : goal.sum-requires
sum-requires c =
    let t = decode c.args.table.now in
    let z = sized c.args.table.now (λ i. (c.type_inv.table i).fits) c.requires.0.accepted in
    let a = c.arc_of-a.result in (
      rw (weight_back t z c.args.i c.requires.1 a c.arc_of-a.ensures) (read_good t z c.args.i c.requires.1 a c.arc_of-a.ensures),
      rw (cell_back c.requires.2 a.target) (c.requires.2.low a.target),
    )

pub bounds-lens-to : goal.bounds-lens-to
bounds-lens-to c =
    let z = sized c.args.table.now (λ i. (c.type_inv.table i).fits) c.requires.0.accepted in
    omega (arith, is_state (decode c.args.table.now) z c.args.i c.requires.1 c.arc_of-a.result c.arc_of-a.ensures, c.requires.2.lens)

pub overflow_add-result : goal.overflow_add-result
overflow_add-result c = omega (arith, cell_most c.requires.2 c.arc_of-a.result.target, c.arc_size.ensures.1)

pub returns : goal.returns
unfolding size_by
returns c =
    let x = c.args in
    let t = decode x.table.now in
    let z = sized x.table.now (λ i. (c.type_inv.table i).fits) c.requires.0.accepted in
    let a = c.arc_of-a.result in
    let to = a.target in
    let is = c.arc_of-a.ensures in
    let sum = sum_by_arc t z c.requires.2 x.i c.requires.1 a is c.sum.ensures in
    let few = c.requires.2.few to in
    let one : unpacked (get_or x.lens.now to 0 + c.arc_size.result) ≡ longer a.output (by_state x.lens.now to) =
    unpack_longer (get_or x.lens.now to 0) a.output c.arc_size.result (omega (arith, few)) c.arc_size.ensures.0 in
    (to_z-of_z {w = w32} (record { sfits = c.sum.type_inv }) ∙ sum, one ∙ ap (λ (y : Arc). longer y.output (by_state x.lens.now y.target)) is)
