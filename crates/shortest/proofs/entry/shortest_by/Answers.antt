-- What is begun is what `distances` asks for, and `found` has what is known of the path; `shortest_none`, `shortest_falls` and `shortest_told` say what is
-- answered in each case.
use Rattle.std.proofs.Common.{Bool, false, List, pos, ◌≡◌, ℕ, ◌∙◌, sym, ap, refl, arith, rules, Err, w32, w64, to_z, of_z, to_z-of_z}
use lib.Signed.{le_z}
use Rattle.wire.proofs.Ints.{bits, wider}
use Rattle.transducer.specs.Format.{Transducer, decode}
use Rattle.transducer.specs.Weight.{Weight, AtMost, Below}
use Rattle.reach.proofs.Sized.{sized}
use Rattle.report.proofs.Telling.{tells_by}
use Rattle.relax.specs.Tentative.{Sizes, unreached, cost_at}
use Rattle.distance.specs.Ended.{DistancesSay}
use Rattle.relax.proofs.Bounds.{cell_fits}
use Rattle.shortest.proofs.Answers.{found, found_costs, stored, stored_costs, shortest_none, shortest_falls, shortest_told}
use Rattle.shortest.proofs.entry.shortest_by.Goals as goal

-- Where the cost is not that of a state that is not reached, it is below that.
reached : {t : Transducer} {live : ℕ → Bool} {cs : List Weight} {ls : Sizes} {d : Bool} → DistancesSay t live cs ls d → (start : ℕ)
    → le_z (pos 2000000000) (to_z w32 (of_z w32 (cost_at cs start))) ≡ false → Below (cost_at cs start) unreached
reached says start below =
    let fits = cell_fits says.cells start in
    omega (arith, bits, below)

pub returns-in_err-distances : goal.returns-in_err-distances
returns-in_err-distances c =
    let z = sized c.args.table.now (λ i. (c.type_inv.table i).fits) (sym c.requires.0.refusal_is) in
    let e = c.in_err-distances.field-0.0 in
    let is : c.from_residual.result ≡ Err e = search rules in
    rw (is, c.in_err-distances.ensures.refusal) (shortest_falls c.args.table.now z c.distances.ensures.says (rw c.in_err-distances.was refl) refl)

pub slice_copy_out-cost : goal.slice_copy_out-cost
slice_copy_out-cost c =
    let z = sized c.args.table.now (λ i. (c.type_inv.table i).fits) (sym c.requires.0.refusal_is) in
    omega (arith, c.begin-shape.ensures.shaped.start_is, z.within.starts, c.distances.ensures.says.cells.costs)

pub returns-then-cost-ge-UNREACHED : goal.returns-then-cost-ge-UNREACHED
returns-then-cost-ge-UNREACHED c =
    let z = sized c.args.table.now (λ i. (c.type_inv.table i).fits) (sym c.requires.0.refusal_is) in
    let fits = cell_fits c.distances.ensures.says.cells c.begin-shape.result.start in
    let none : AtMost unreached (cost_at c.distances.new.costs c.begin-shape.result.start) = omega (arith, bits, c.if-cost-ge-UNREACHED.true) in
    shortest_none c.args.table.now z c.distances.ensures.says (rw c.in_ok-distances.was refl) c.begin-shape.ensures.shaped.start_is none refl

pub bounds-lens-start : goal.bounds-lens-start
bounds-lens-start c =
    let z = sized c.args.table.now (λ i. (c.type_inv.table i).fits) (sym c.requires.0.refusal_is) in
    omega (arith, c.begin-shape.ensures.shaped.start_is, z.within.starts, c.distances.ensures.says.cells.lens)

pub follow-requires : goal.follow-requires
follow-requires c =
    let t = decode c.args.table.now in
    let z = sized c.args.table.now (λ i. (c.type_inv.table i).fits) (sym c.requires.0.refusal_is) in
    let start = c.begin-shape.result.start in
    let known = c.begin-shape.ensures.shaped in
    let path =
    found t z c.distances.new.costs c.distances.new.lens start c.arcs_of-len.result c.distances.ensures.says (rw c.in_ok-distances.was refl) known.start_is
    (reached c.distances.ensures.says start c.if-cost-ge-UNREACHED.false) c.arcs_of-len.ensures in (
      known.opened,
      known.states_are,
      known.arcs_are,
      omega (arith, known.start_is, z.within.starts),
      omega (arith, path.few, c.requires.3),
      path.goes,
      c.distances.ensures.says.cells,
    )

pub put_labels-end-requires : goal.put_labels-end-requires
put_labels-end-requires c =
    let t = decode c.args.table.now in
    let z = sized c.args.table.now (λ i. (c.type_inv.table i).fits) (sym c.requires.0.refusal_is) in
    let start = c.begin-shape.result.start in
    let known = c.begin-shape.ensures.shaped in
    let path =
    found t z c.distances.new.costs c.distances.new.lens start c.arcs_of-len.result c.distances.ensures.says (rw c.in_ok-distances.was refl) known.start_is
    (reached c.distances.ensures.says start c.if-cost-ge-UNREACHED.false) c.arcs_of-len.ensures in
    let put = stored t _ start c.arcs_of-len.result c.args.arcs.now c.follow.new.out path c.requires.3 c.follow.ensures in
    (known.opened, known.start_is, put.inside, path.few, put.accepted, c.requires.4)

pub answer-requires : goal.answer-requires
answer-requires c =
    let t = decode c.args.table.now in
    let z = sized c.args.table.now (λ i. (c.type_inv.table i).fits) (sym c.requires.0.refusal_is) in
    let start = c.begin-shape.result.start in
    let path =
    found t z c.distances.new.costs c.distances.new.lens start c.arcs_of-len.result c.distances.ensures.says (rw c.in_ok-distances.was refl)
    c.begin-shape.ensures.shaped.start_is (reached c.distances.ensures.says start c.if-cost-ge-UNREACHED.false) c.arcs_of-len.ensures in
    (path.few, c.put_labels-end.ensures.few)

pub returns : goal.returns
returns c =
    let t = decode c.args.table.now in
    let z = sized c.args.table.now (λ i. (c.type_inv.table i).fits) (sym c.requires.0.refusal_is) in
    let start = c.begin-shape.result.start in
    let len = c.arcs_of-len.result in
    let there = reached c.distances.ensures.says start c.if-cost-ge-UNREACHED.false in
    let path =
    found t z c.distances.new.costs c.distances.new.lens start len c.distances.ensures.says (rw c.in_ok-distances.was refl)
    c.begin-shape.ensures.shaped.start_is there c.arcs_of-len.ensures in
    let costs =
    found_costs t z c.distances.new.costs c.distances.new.lens start len c.distances.ensures.says (rw c.in_ok-distances.was refl)
    c.begin-shape.ensures.shaped.start_is there c.arcs_of-len.ensures in
    let put = stored t _ start len c.args.arcs.now c.follow.new.out path c.requires.3 c.follow.ensures in
    let fits = cell_fits c.distances.ensures.says.cells start in
    let back = ap (λ (x : Weight). to_z w64 (of_z w64 x)) (to_z-of_z fits) ∙ to_z-of_z (wider (cost_at c.distances.new.costs start) fits) in
    shortest_told c.args.table.now c.requires.3 path c.follow.ensures
    (rw c.answer.ensures (tells_by t _ _ len (back ∙ stored_costs t put path costs) (sym put.long) c.put_labels-end.ensures))
