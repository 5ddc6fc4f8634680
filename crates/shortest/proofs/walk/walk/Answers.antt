-- The arc that is found is the state's first tight arc: the path has one more from it.
use Rattle.std.proofs.Common.{◌≡◌, ◌+◌, ◌∙◌, arith, length}
use Rattle.wire.specs.Bytes.{cleared}
use Rattle.transducer.specs.Format.{decode}
use Rattle.transducer.proofs.Index.{arcs_below_mono}
use Rattle.reach.proofs.Sized.{sized}
use Rattle.relax.specs.Tentative.{cost_at, by_state}
use Rattle.shortest.specs.Tight.{first_tight}
use Rattle.shortest.proofs.Along.{arc_sought, walked_first, walked_next, walked_done}
use Rattle.shortest.proofs.walk.walk.Goals as goal

pub loop-n-init : goal.loop-n-init
loop-n-init c =
    let t = decode c.args.table.now in
    let asked = c.requires.asked in (
      sized c.args.table.now (λ i. omega (arith, c.type_inv.table i)) asked.0.accepted,
      walked_first t (first_tight t (cost_at c.args.costs.now) (by_state c.args.lens.now)) c.args.start c.args.len c.args.out.now asked.3 asked.2 asked.4,
      omega arith,
    )

pub arcs_from-from-requires-clause-asked : goal.arcs_from-from-requires-clause-asked
arcs_from-from-requires-clause-asked c =
    let inside = c.loop-n.invariant.1.inside in
    (c.requires.asked.0, c.requires.asked.1, inside, omega (arith, inside, c.loop-n.invariant.0.states), c.loop-n.invariant.2)

pub first_giving-i-requires : goal.first_giving-i-requires
first_giving-i-requires c =
    let has = c.arcs_from-from.ensures in
    let s = c.loop-n.s in
    let order = arcs_below_mono s (s + 1) (decode c.args.table.now).arcs (omega arith) in
    (c.requires.asked.0, c.loop-n.invariant.1.inside, omega (arith, has.from_is, has.to_high, order), has.to_inside, c.requires.asked.5)

pub overflow_cast-out : goal.overflow_cast-out
overflow_cast-out c =
    let found =
    arc_sought (decode c.args.table.now) c.loop-n.invariant.0 (cost_at c.args.costs.now) (by_state c.args.lens.now) c.loop-n.invariant.1 c.loop-n-test.true
    c.arcs_from-from.ensures c.first_giving-i.ensures in
    omega (arith, found.1, c.loop-n.invariant.0.arcs)

pub overflow_add-near : goal.overflow_add-near
overflow_add-near c =
    let found =
    arc_sought (decode c.args.table.now) c.loop-n.invariant.0 (cost_at c.args.costs.now) (by_state c.args.lens.now) c.loop-n.invariant.1 c.loop-n-test.true
    c.arcs_from-from.ensures c.first_giving-i.ensures in
    omega (arith, found.1, c.loop-n.invariant.0.arcs)

pub arc_of-s-requires : goal.arc_of-s-requires
arc_of-s-requires c =
    let found =
    arc_sought (decode c.args.table.now) c.loop-n.invariant.0 (cost_at c.args.costs.now) (by_state c.args.lens.now) c.loop-n.invariant.1 c.loop-n-test.true
    c.arcs_from-from.ensures c.first_giving-i.ensures in
    (c.requires.asked.0, found.1)

pub loop-n-preserved : goal.loop-n-preserved
loop-n-preserved c =
    let t = decode c.args.table.now in
    let h = c.loop-n in
    let found =
    arc_sought (decode c.args.table.now) c.loop-n.invariant.0 (cost_at c.args.costs.now) (by_state c.args.lens.now) c.loop-n.invariant.1 c.loop-n-test.true
    c.arcs_from-from.ensures c.first_giving-i.ensures in (
      h.invariant.0,
      walked_next t h.invariant.0.within (first_tight t (cost_at c.args.costs.now) (by_state c.args.lens.now)) c.args.start c.args.len
          (length c.args.out.now) h.out h.s h.n h.invariant.1 c.loop-n-test.true c.first_giving-i.result c.arc_of-s.result found.0 c.arc_of-s.ensures,
      omega (arith, found.1, c.requires.asked.1),
    )

pub returns : goal.returns
unfolding cleared
returns c =
    let t = decode c.args.table.now in
    let h = c.loop-n in
    let all : h.n ≡ c.args.len = omega arith in
    let walked = rw all at h.invariant.1 in
    c.clear.ensures
    ∙ walked_done t (first_tight t (cost_at c.args.costs.now) (by_state c.args.lens.now)) c.args.start c.args.len (length c.args.out.now)
    h.out h.s c.args.len walked (omega arith)
