use mathlib.Core.Path.{◌≡◌, sym, ap, ◌∙◌}
use mathlib.Core.Bool.{true, false, ◌||◌}
use Prim.Native.Nat.{ℕ, ◌-◌, ◌<◌}
use native.Mathlib.Omega.{arith}
use lib.Dec.{leb}
use borrow.Author.Tests.{leb-false}
use Rattle.wire.proofs.Bool.{never, or_false}
use Rattle.transducer.specs.declared.Arc.{Arc}
use Rattle.transducer.specs.Format.{decode}
use Rattle.transducer.specs.Path.{arc}
use Rattle.transducer.specs.Accepted.{arcs_below}
use Rattle.transducer.specs.Weight.{Weight, no_weight}
use Rattle.transducer.proofs.Index.{arcs_of_state}
use Rattle.relax.specs.Tentative.{by_state, is_nearest}
use Rattle.relax.specs.declared.relaxing.Change.TheVariants.{TooLong}
use Rattle.relax.proofs.Bounds.{cell_back}
use Rattle.relaxation.proofs.Opened.{opened}
use Rattle.relaxation.proofs.InPlace.{sweeping_state, passed_less, sweeping_passed, sweeping_kept, sweeping_changed}
use Rattle.relaxation.proofs.sweep.sweep.Goals as goal

pub slice_copy_out-is_nearest : goal.slice_copy_out-is_nearest
slice_copy_out-is_nearest c =
    let size = opened c.args.table.now c.type_inv.table c.requires.0 in
    let k = c.loop-i in
    let states = sweeping_state (decode c.args.table.now) size c.args.plain k.low k.i k.costs k.lens k.again k.invariant c.loop-i-test.true in
    let here : c.arc_of-a.result.source < (decode c.args.table.now).states = rw c.arc_of-a.ensures states.0 in
    omega (arith, here, k.invariant.cells.costs)

pub bounds-lens-s : goal.bounds-lens-s
bounds-lens-s c =
    let size = opened c.args.table.now c.type_inv.table c.requires.0 in
    let k = c.loop-i in
    let states = sweeping_state (decode c.args.table.now) size c.args.plain k.low k.i k.costs k.lens k.again k.invariant c.loop-i-test.true in
    let here : c.arc_of-a.result.source < (decode c.args.table.now).states = rw c.arc_of-a.ensures states.0 in
    omega (arith, here, k.invariant.cells.lens)

pub first_back-i-requires : goal.first_back-i-requires
first_back-i-requires c =
    let size = opened c.args.table.now c.type_inv.table c.requires.0 in
    let source = ap (λ (a : Arc). a.source) (sym c.arc_of-a.ensures) in (
      c.requires.0,
      omega (arith, c.loop-i.invariant.below),
      (arcs_of_state (decode c.args.table.now) (c.loop-i.i - 1) c.arc_of-a.result.source size.content (omega (arith, c.loop-i.invariant.below, c.loop-i-test.true)) source).0,
    )

pub loop-i-smaller-then-plain-is_nearest : goal.loop-i-smaller-then-plain-is_nearest
loop-i-smaller-then-plain-is_nearest c =
    let t = decode c.args.table.now in
    let size = opened c.args.table.now c.type_inv.table c.requires.0 in
    let k = c.loop-i in
    let first : c.first_back-i.result ≡ arcs_below (arc t (k.i - 1)).source t.arcs = rw (← c.arc_of-a.ensures) c.first_back-i.ensures in
    passed_less t size c.args.plain k.low k.i k.costs k.lens k.again k.invariant c.loop-i-test.true c.first_back-i.result first

pub loop-i-preserved-then-plain-is_nearest : goal.loop-i-preserved-then-plain-is_nearest
loop-i-preserved-then-plain-is_nearest c =
    let size = opened c.args.table.now c.type_inv.table c.requires.0 in
    let k = c.loop-i in
    let src = c.arc_of-a.result.source in
    let near = c.is_nearest.ensures ∙ ap (λ (x : Weight). is_nearest no_weight x (by_state k.lens src)) (cell_back k.invariant.cells src) in
    sweeping_passed (decode c.args.table.now) size c.args.plain k.low k.i k.costs k.lens k.again k.invariant c.loop-i-test.true c.arc_of-a.result
    c.arc_of-a.ensures near c.if-plain-is_nearest.true c.first_back-i.result c.first_back-i.ensures

pub loop-i-preserved-in-Kept : goal.loop-i-preserved-in-Kept
loop-i-preserved-in-Kept c =
    let size = opened c.args.table.now c.type_inv.table c.requires.0 in
    let k = c.loop-i in
    sweeping_kept (decode c.args.table.now) size c.args.plain k.low k.i k.costs k.lens k.again k.invariant c.loop-i-test.true c.arc_of-a.result
    c.arc_of-a.ensures c.min-low.result _ _ c.relax.result (omega (arith, c.min-low.ensures)) (omega (arith, c.min-low.ensures)) c.relax.ensures c.in-Kept.is

pub loop-i-preserved-in-TooLong : goal.loop-i-preserved-in-TooLong
loop-i-preserved-in-TooLong c =
    let size = opened c.args.table.now c.type_inv.table c.requires.0 in
    let k = c.loop-i in
    sweeping_changed (decode c.args.table.now) size c.args.plain k.low k.i k.costs k.lens k.again k.invariant c.loop-i-test.true c.arc_of-a.result
    c.arc_of-a.ensures c.min-low.result _ _ c.relax.result (omega (arith, c.min-low.ensures)) (omega (arith, c.min-low.ensures)) c.relax.ensures
    true (λ e. never (sym e))

pub loop-i-preserved : goal.loop-i-preserved
loop-i-preserved c =
    let size = opened c.args.table.now c.type_inv.table c.requires.0 in
    let k = c.loop-i in
    let low : ℕ = c.min-low.result in
    let src : ℕ = c.arc_of-a.result.source in
    let again : k.again || leb low src ≡ false → (k.again ≡ false) × (c.relax.result ≡ TooLong → ⊥) × (src < low) =
    (λ e. let none = or_false k.again (leb low src) e in (none.0, λ long. cc, leb-false low src none.1)) in
    sweeping_changed (decode c.args.table.now) size c.args.plain k.low k.i k.costs k.lens k.again k.invariant c.loop-i-test.true c.arc_of-a.result
    c.arc_of-a.ensures c.min-low.result _ _ c.relax.result (omega (arith, c.min-low.ensures)) (omega (arith, c.min-low.ensures)) c.relax.ensures
    (k.again || leb low src) again
