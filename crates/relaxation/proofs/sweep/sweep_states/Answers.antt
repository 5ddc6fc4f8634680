use mathlib.Core.Path.{◌≡◌, sym, ap, ◌∙◌}
use Prim.Native.Nat.{ℕ, ◌+◌, ◌-◌, ◌<◌}
use native.Mathlib.Omega.{arith}
use mir.Syntax.{w32}
use mir.Val.{to_z, of_z}
use mir.Facts.{to_z-of_z}
use Rattle.std.specs.Int.{int_min}
use Rattle.std.proofs.lemmas.Int.{ints}
use Rattle.transducer.specs.Weight.{Weight, AtMost}
use Rattle.transducer.specs.Format.{Transducer, decode}
use Rattle.transducer.specs.Accepted.{arcs_below}
use Rattle.transducer.proofs.Index.{arcs_below_length, arcs_below_mono, arcs_below_states}
use Rattle.paths.proofs.Ready.{Range}
use Rattle.relax.specs.Tentative.{Forward}
use Rattle.relax.proofs.Bounds.{cell_back}
use Rattle.relaxation.proofs.Opened.{opened}
use Rattle.relaxation.proofs.ByStates.{floored_first, floored_stop, floored_from, floored_barred, floored_next, range_leave}
use Rattle.relaxation.proofs.sweep.sweep_states.Goals as goal

-- The arcs of the state below s.
arcs : (t : Transducer) (s from to : ℕ) → 0 < s → from ≡ arcs_below (s - 1) t.arcs → to ≡ arcs_below s t.arcs → Range t (s - 1) from to
arcs t s from to some f e =
    let next : s ≡ s - 1 + 1 = omega arith in
    let to_is : to ≡ arcs_below (s - 1 + 1) t.arcs = e ∙ ap (λ (n : ℕ). arcs_below n t.arcs) next in
    record {
      from_is = f;
      to_is = to_is;
      order = omega (arith, f, e, arcs_below_mono (s - 1) s t.arcs (omega arith));
      inside = omega (arith, e, arcs_below_length s t.arcs);
    }

least_min : (x a b : Weight) → AtMost x a → AtMost x b → AtMost x (int_min a b)
least_min x a b p q = grind (arith, ints, p, q)

pub loop-s-init : goal.loop-s-init
loop-s-init c =
    let t = decode c.args.table.now in
    let size = opened c.args.table.now c.type_inv.table c.requires.0 in (
      floored_first t size c.args.states c.requires.1 c.args.costs.now c.args.lens.now c.requires.5 c.requires.4,
      c.requires.2 ∙ (sym (arcs_below_states t size.content) ∙ ap (λ (n : ℕ). arcs_below n t.arcs) (sym c.requires.1)),
    )

pub first_back-from-requires : goal.first_back-from-requires
first_back-from-requires c =
    let xs = (decode c.args.table.now).arcs in
    let to_is = c.loop-s.invariant.1 in (
      c.requires.0,
      omega (arith, to_is, arcs_below_length c.loop-s.s xs),
      omega (arith, to_is, arcs_below_mono (c.loop-s.s - 1) c.loop-s.s xs (omega arith)),
    )

pub sweep_state-requires : goal.sweep_state-requires
sweep_state-requires c =
    let t = decode c.args.table.now in
    let size = opened c.args.table.now c.type_inv.table c.requires.0 in
    let k = c.loop-s in
    let own = arcs t k.s c.first_back-from.result k.to c.loop-s-test.true c.first_back-from.ensures k.invariant.1 in
    let f : Forward t (to_z w32 (of_z w32 c.args.least)) = rw (to_z-of_z c.ranges.least) c.requires.3 in (
      c.requires.0,
      c.requires.1,
      c.requires.3.up,
      c.requires.3.writes,
      range_leave t size (k.s - 1) c.first_back-from.result k.to (omega (arith, c.loop-s-test.true, k.invariant.0.place)) own,
      floored_barred t size k.s (to_z w32 k.floor-bits) k.costs k.lens k.invariant.0 c.loop-s-test.true c.first_back-from.result k.to own
          (to_z w32 (of_z w32 c.args.least)) f (to_z w32 (of_z w32 c.sum-bar.result))
          (to_z-of_z {w = w32} (record { sfits = c.sum-bar.type_inv }) ∙ c.sum-bar.ensures),
      floored_from t size k.s (to_z w32 k.floor-bits) k.costs k.lens k.invariant.0 c.loop-s-test.true c.first_back-from.result k.to own,
    )

pub loop-s-preserved : goal.loop-s-preserved
loop-s-preserved c =
    let size = opened c.args.table.now c.type_inv.table c.requires.0 in
    let k = c.loop-s in
    let own = arcs (decode c.args.table.now) k.s c.first_back-from.result k.to c.loop-s-test.true c.first_back-from.ensures k.invariant.1 in
    let cells = c.sweep_state.ensures.cells in
    let state : ℕ = k.s - 1 in
    let least = c.min-floor.ensures in (
      rw (to_z-of_z {w = w32} {z = c.min-floor.result} (record { sfits = c.min-floor.type_inv }))
          (floored_next (decode c.args.table.now) size k.s (to_z w32 k.floor-bits) k.costs k.lens k.invariant.0 c.loop-s-test.true
          c.first_back-from.result k.to own _ _ c.sweep_state.ensures c.if-sweep_state.false c.min-floor.result least.self_bound
          (rw (cell_back cells state) at least.other_bound)
          (rw least.value (least_min _ _ _ k.invariant.0.low (rw (cell_back cells state) (cells.low state))))),
      c.first_back-from.ensures,
    )

pub returns : goal.returns
returns c =
    let size = opened c.args.table.now c.type_inv.table c.requires.0 in
    let k = c.loop-s in
    floored_stop (decode c.args.table.now) size k.s (to_z w32 k.floor-bits) k.costs k.lens k.invariant.0 (omega (arith, c.loop-s-test.false))
