-- The arc as it was read; it leaves its source as it was, makes it better, or would by a path of too many arcs (`relaxes`).
use mathlib.Core.Path.{ap, ◌∙◌}
use Prim.Native.Nat.{ℕ, ◌+◌, ◌<◌}
use native.Mathlib.Omega.{arith}
use lib.ListN.{get_or}
use mir.Syntax.{w32}
use mir.Val.{SFits, to_z, of_z}
use mir.Facts.{to_z-of_z}
use Rattle.wire.proofs.Ints.{bits}
use Rattle.transducer.specs.Format.{decode}
use Rattle.transducer.specs.Weight.{Weight, Below}
use Rattle.reach.proofs.Sized.{opened_sized}
use Rattle.relax.specs.Size.{nearer}
use Rattle.relax.specs.Tentative.{unpacked, cost_at, by_state}
use Rattle.relax.proofs.Bounds.{cell_fits, cell_back, cell_most, weight_back, read_good, onward_back}
use Rattle.relax.proofs.Packed.{unpack_longer}
use Rattle.relax.proofs.Relaxed.{relaxed_states, relaxed_dearer, Relaxes, relaxes}
use Rattle.relax.proofs.relaxing.relax.Goals as goal
use Rattle.relax.proofs.relaxing.relax.Goals.{After-arc_of-a, After-comes_first}

-- The two states of the arc that was read: there are cells for them.
states : (c : After-arc_of-a) → let n = (decode c.args.table.now).states in (c.arc_of-a.result.source < n) × (c.arc_of-a.result.target < n)
states c =
    let a = c.args in
    let pre = c.requires in
    relaxed_states (decode a.table.now) (opened_sized c.type_inv.table pre.0) a.costs.now a.lens.now pre.4 pre.3 a.i pre.1
    c.arc_of-a.result c.arc_of-a.ensures

-- The cost and the size by way of the arc.
abbrev cost : After-comes_first → Weight
cost c = to_z w32 (of_z w32 c.sum-cost.result)

abbrev len : After-comes_first → ℕ
len c = get_or c.args.lens.now c.arc_of-a.result.target 0 + c.arc_size.result

-- What is left in each case.
both : (c : After-comes_first)
    → Relaxes (decode c.args.table.now) c.args.i c.args.costs.now c.args.lens.now c.arc_of-a.result.source (cost c) (len c) c.comes_first.result
both c =
    let a = c.args in
    let pre = c.requires in
    let t = decode a.table.now in
    let arc' = c.arc_of-a.result in
    let is = c.arc_of-a.ensures in
    let made = c.sum-cost in
    let z = opened_sized c.type_inv.table pre.0 in
    relaxes t z a.costs.now a.lens.now pre.4 pre.3 a.i pre.1 arc' is (cost c) (len c)
    (to_z-of_z {w = w32} (record { sfits = made.type_inv }) ∙ onward_back t z pre.4 a.i pre.1 arc' is made.ensures)
    (unpack_longer (get_or a.lens.now arc'.target 0) arc'.output c.arc_size.result (omega (arith, pre.4.few arc'.target)) c.arc_size.ensures.0)
    (c.comes_first.ensures
    ∙ ap (λ (x : Weight). nearer (cost c) (unpacked (len c)) x (by_state a.lens.now arc'.source)) (cell_back pre.4 arc'.source))

pub slice_copy_out-sum : goal.slice_copy_out-sum
slice_copy_out-sum c = omega (arith, (states (goal.at.slice_copy_out-sum c).After-arc_of-a).1)

pub sum-cost-requires : goal.sum-cost-requires
sum-cost-requires c =
    let z = opened_sized c.type_inv.table c.requires.0 in
    let cells = c.requires.4 in
    let t = decode c.args.table.now in
    let arc' = c.arc_of-a.result in
    let is = c.arc_of-a.ensures in (
      rw (weight_back t z c.args.i c.requires.1 arc' is) (read_good t z c.args.i c.requires.1 arc' is),
      rw (cell_back cells arc'.target) (cells.low arc'.target),
    )

pub slice_copy_out-t-14 : goal.slice_copy_out-t-14
slice_copy_out-t-14 c = omega (arith, (states (goal.at.slice_copy_out-t-14 c).After-arc_of-a).0)

pub returns-then-costs-s : goal.returns-then-costs-s
returns-then-costs-s c =
    let z = opened_sized c.type_inv.table c.requires.0 in
    let a = c.args in
    let pre = c.requires in
    let t = decode a.table.now in
    let arc' = c.arc_of-a.result in
    let is = c.arc_of-a.ensures in
    let made = c.sum-cost in
    let f : SFits w32 (cost_at a.costs.now arc'.source) = cell_fits pre.4 arc'.source in
    let g : SFits w32 made.result = record { sfits = made.type_inv } in
    let less : Below (cost_at a.costs.now arc'.source) made.result = omega (arith, bits, c.if-costs-s.true) in
    relaxed_dearer t z a.costs.now a.lens.now pre.4 pre.3 a.i pre.1 arc' is made.result
    (onward_back t z pre.4 a.i pre.1 arc' is made.ensures) less

pub bounds-lens-to : goal.bounds-lens-to
bounds-lens-to c = omega (arith, (states (goal.at.bounds-lens-to c).After-arc_of-a).1)

pub overflow_add-len : goal.overflow_add-len
overflow_add-len c = omega (arith, cell_most c.requires.4 c.arc_of-a.result.target, c.arc_size.ensures.1)

pub slice_copy_out-comes_first : goal.slice_copy_out-comes_first
slice_copy_out-comes_first c = omega (arith, (states (goal.at.slice_copy_out-comes_first c).After-arc_of-a).0)

pub bounds-lens-s : goal.bounds-lens-s
bounds-lens-s c = omega (arith, (states (goal.at.bounds-lens-s c).After-arc_of-a).0)

pub returns-then-not-comes_first : goal.returns-then-not-comes_first
returns-then-not-comes_first c = (both (goal.at.returns-then-not-comes_first c).After-comes_first).same c.if-not-comes_first.true

pub returns-then-states-arcs_of : goal.returns-then-states-arcs_of
returns-then-states-arcs_of c =
    (both (goal.at.returns-then-states-arcs_of c).After-comes_first).long c.if-not-comes_first.false
    (omega (arith, c.requires.2, c.arcs_of.ensures, c.if-states-arcs_of.true))

pub bounds-costs-s : goal.bounds-costs-s
bounds-costs-s c = omega (arith, (states (goal.at.bounds-costs-s c).After-arc_of-a).0)

pub bounds-lens-s-2 : goal.bounds-lens-s-2
bounds-lens-s-2 c = omega (arith, (states (goal.at.bounds-lens-s-2 c).After-arc_of-a).0)

pub returns : goal.returns
returns c =
    (both (goal.at.returns c).After-comes_first).put c.if-not-comes_first.false
    (omega (arith, c.requires.2, c.arcs_of.ensures, c.if-states-arcs_of.false))
