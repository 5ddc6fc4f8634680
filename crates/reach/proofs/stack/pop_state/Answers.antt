use Rattle.std.proofs.Common.{◌≡◌, ℕ, refl, sym, arith, slice_index_or}
use Rattle.reach.specs.Cell.{state_of, link_of}
use Rattle.reach.proofs.Cell.{Parts}
use Rattle.reach.proofs.Sized.{sized}
use Rattle.reach.proofs.Spreading.{number_most}
use Rattle.reach.proofs.Stacked.{serving_first, serving_to, serving_link, serving_room, serving_less, serving_fewer}
use Rattle.reach.proofs.Stacked.{serving_over, serving_on, serving_new, serving_stop}
use Rattle.reach.proofs.stack.pop_state.Goals as goal

-- A cell taken apart.
cell_parts : {u k cell : ℕ} → u ≡ state_of cell → k ≡ link_of cell → Parts u k cell
cell_parts u k = record { state_is = sym u; link_is = sym k }

pub offset_bounds-stack-top : goal.offset_bounds-stack-top
offset_bounds-stack-top c =
    let w = c.requires.3 in
    omega (arith, w.few, number_most c.args.marks.now, w.marks_long)

pub bounds-stack-top : goal.bounds-stack-top
bounds-stack-top c =
    let w = c.requires.3 in
    omega (arith, w.few, number_most c.args.marks.now, w.marks_long)

pub loop-cell-init : goal.loop-cell-init
loop-cell-init c =
    serving_first (slice_index_or c.args.stack.now c.args.top 0) (sized c.args.table.now c.requires.0 c.requires.1) refl c.requires.2 c.requires.3

pub overflow_sub-cell : goal.overflow_sub-cell
overflow_sub-cell c =
    omega (arith, serving_link (sized c.args.table.now c.requires.0 c.requires.1) c.loop-cell.invariant c.loop-cell-test.true (cell_parts c.state_of-to.ensures c.link_of-link.ensures))

pub offset_bounds-next-link : goal.offset_bounds-next-link
offset_bounds-next-link c =
    omega (arith, serving_link (sized c.args.table.now c.requires.0 c.requires.1) c.loop-cell.invariant c.loop-cell-test.true (cell_parts c.state_of-to.ensures c.link_of-link.ensures))

pub bounds-next-link : goal.bounds-next-link
bounds-next-link c =
    omega (arith, serving_link (sized c.args.table.now c.requires.0 c.requires.1) c.loop-cell.invariant c.loop-cell-test.true (cell_parts c.state_of-to.ensures c.link_of-link.ensures))

pub bounds-marks-to : goal.bounds-marks-to
bounds-marks-to c =
    let size = (sized c.args.table.now c.requires.0 c.requires.1) in
    omega (arith, size.states, serving_to size c.loop-cell.invariant c.loop-cell-test.true (cell_parts c.state_of-to.ensures c.link_of-link.ensures))

pub loop-cell-smaller-then-marks-to : goal.loop-cell-smaller-then-marks-to
loop-cell-smaller-then-marks-to c =
    serving_less (sized c.args.table.now c.requires.0 c.requires.1) c.loop-cell.invariant c.loop-cell-test.true (cell_parts c.state_of-to.ensures c.link_of-link.ensures) c.requires.2

pub loop-cell-preserved-then-marks-to : goal.loop-cell-preserved-then-marks-to
loop-cell-preserved-then-marks-to c =
    serving_over (sized c.args.table.now c.requires.0 c.requires.1) c.loop-cell.invariant c.loop-cell-test.true (cell_parts c.state_of-to.ensures c.link_of-link.ensures) c.requires.2 c.if-marks-to.true

pub bounds-marks-to-in-loop-cell : goal.bounds-marks-to-in-loop-cell
bounds-marks-to-in-loop-cell c =
    let size = (sized c.args.table.now c.requires.0 c.requires.1) in
    omega (arith, size.states, serving_to size c.loop-cell.invariant c.loop-cell-test.true (cell_parts c.state_of-to.ensures c.link_of-link.ensures))

pub offset_bounds-heads-s-then-cell-eq0 : goal.offset_bounds-heads-s-then-cell-eq0
offset_bounds-heads-s-then-cell-eq0 c =
    let size = (sized c.args.table.now c.requires.0 c.requires.1) in
    omega (arith, size.states, serving_to size c.loop-cell.invariant c.loop-cell-test.true (cell_parts c.state_of-to.ensures c.link_of-link.ensures))

pub bounds-heads-s-then-cell-eq0 : goal.bounds-heads-s-then-cell-eq0
bounds-heads-s-then-cell-eq0 c =
    let size = (sized c.args.table.now c.requires.0 c.requires.1) in
    omega (arith, size.states, serving_to size c.loop-cell.invariant c.loop-cell-test.true (cell_parts c.state_of-to.ensures c.link_of-link.ensures))

pub loop-cell-smaller-then-cell-eq0 : goal.loop-cell-smaller-then-cell-eq0
loop-cell-smaller-then-cell-eq0 c =
    serving_fewer (sized c.args.table.now c.requires.0 c.requires.1) c.loop-cell.invariant c.loop-cell-test.true (cell_parts c.state_of-to.ensures c.link_of-link.ensures) c.if-marks-to.false _

pub loop-cell-preserved-then-cell-eq0 : goal.loop-cell-preserved-then-cell-eq0
loop-cell-preserved-then-cell-eq0 c =
    serving_on (sized c.args.table.now c.requires.0 c.requires.1) c.loop-cell.invariant c.loop-cell-test.true (cell_parts c.state_of-to.ensures c.link_of-link.ensures) c.requires.2 c.if-marks-to.false c.if-cell-eq0.true

pub overflow_cast-stack : goal.overflow_cast-stack
overflow_cast-stack c =
    let size = (sized c.args.table.now c.requires.0 c.requires.1) in
    omega (arith, size.states, serving_to size c.loop-cell.invariant c.loop-cell-test.true (cell_parts c.state_of-to.ensures c.link_of-link.ensures))

pub offset_bounds-stack-end : goal.offset_bounds-stack-end
offset_bounds-stack-end c =
    omega (arith, serving_room (sized c.args.table.now c.requires.0 c.requires.1) c.loop-cell.invariant c.loop-cell-test.true (cell_parts c.state_of-to.ensures c.link_of-link.ensures))

pub bounds-stack-end : goal.bounds-stack-end
bounds-stack-end c =
    omega (arith, serving_room (sized c.args.table.now c.requires.0 c.requires.1) c.loop-cell.invariant c.loop-cell-test.true (cell_parts c.state_of-to.ensures c.link_of-link.ensures))

pub overflow_add-end : goal.overflow_add-end
overflow_add-end c =
    omega (arith, serving_room (sized c.args.table.now c.requires.0 c.requires.1) c.loop-cell.invariant c.loop-cell-test.true (cell_parts c.state_of-to.ensures c.link_of-link.ensures))

pub loop-cell-smaller : goal.loop-cell-smaller
loop-cell-smaller c =
    serving_fewer (sized c.args.table.now c.requires.0 c.requires.1) c.loop-cell.invariant c.loop-cell-test.true (cell_parts c.state_of-to.ensures c.link_of-link.ensures) c.if-marks-to.false _

pub loop-cell-preserved : goal.loop-cell-preserved
loop-cell-preserved c =
    serving_new (sized c.args.table.now c.requires.0 c.requires.1) c.loop-cell.invariant c.loop-cell-test.true (cell_parts c.state_of-to.ensures c.link_of-link.ensures) c.requires.2 c.if-marks-to.false

pub returns : goal.returns
returns c =
    serving_stop c.loop-cell-test.false c.loop-cell.invariant
