use Rattle.std.proofs.Common.{◌≡◌, ℕ, ◌+◌, ◌-◌, ◌<◌, List, Bool, true, false, get_or, length, refl, sym, arith}
use Rattle.std.proofs.Math.ListN.{set}
use Rattle.transducer.specs.Format.{Transducer, decode}
use Rattle.reach.specs.Cell.{state_of, link_of}
use Rattle.reach.proofs.Cell.{Parts}
use Rattle.reach.proofs.Chains.{chain_link, chain_less}
use Rattle.capped.specs.declared.Count.{Count}
use Rattle.capped.specs.Marks.{marked}
use Rattle.capped.proofs.MarksInPlace.{marked_grows}
use Rattle.paths.specs.Sweep.{at_state}
use Rattle.paths.specs.Counting.{Underway}
use Rattle.paths.proofs.Ready.{Sized, sized_read}
use Rattle.paths.proofs.Counting.{top_state, unmarked_less}
use Rattle.paths.proofs.Releasing.{releasing_first, releasing_source, releasing_some, releasing_room, releasing_next, releasing_stop}
use Rattle.paths.proofs.Rested.{underway_rested}
use Rattle.paths.proofs.counts.count_all.Goals as goal

-- A cell taken apart.
cell_parts : {u k cell : ℕ} → u ≡ state_of cell → k ≡ link_of cell → Parts u k cell
cell_parts u k = record { state_is = sym u; link_is = sym k }

-- What waits, with the state on top apart.
again : {t : Transducer} {marks : List Bool} {left stack : List ℕ} {top : ℕ} {counts : List Count} → 0 < top → Underway t marks left stack top counts
    → Underway t marks left stack (top - 1 + 1) counts
again {top = top} some w = let one : top - 1 + 1 ≡ top = omega arith in rw one w

-- The state on top is not marked yet.
record OnTop (t : Transducer) (marks : List Bool) (s : ℕ) : Type 0 where
  below : s < t.states
  free : marked marks s ≡ false
  low : s < 1024

on_top : (t : Transducer) → Sized t → {marks : List Bool} {left stack : List ℕ} {top : ℕ} {counts : List Count} → 0 < top
    → Underway t marks left stack top counts → OnTop t marks (get_or stack (top - 1) 0)
on_top t z {marks} {left} {stack} {top} some w =
    let x = top_state t z marks left stack (top - 1) (get_or stack (top - 1) 0) refl (again some w).counting in
    record { below = x.0; free = x.1; low = omega (arith, x.0, z.states) }

pub offset_bounds-stack-top : goal.offset_bounds-stack-top
offset_bounds-stack-top c =
    omega (arith, c.loop-top.invariant.0.counting.stacked.few, (sized_read c.args.table.now c.type_inv.table c.requires.0).states)

pub bounds-stack-top : goal.bounds-stack-top
bounds-stack-top c =
    omega (arith, c.loop-top.invariant.0.counting.stacked.few, (sized_read c.args.table.now c.type_inv.table c.requires.0).states)

pub bounds-marks-s : goal.bounds-marks-s
bounds-marks-s c =
    (on_top (decode c.args.table.now) (sized_read c.args.table.now c.type_inv.table c.requires.0) c.loop-top-test.true c.loop-top.invariant.0).low

pub bounds-counts-s : goal.bounds-counts-s
bounds-counts-s c =
    (on_top (decode c.args.table.now) (sized_read c.args.table.now c.type_inv.table c.requires.0) c.loop-top-test.true c.loop-top.invariant.0).low

pub bounds-heads-s : goal.bounds-heads-s
bounds-heads-s c =
    (on_top (decode c.args.table.now) (sized_read c.args.table.now c.type_inv.table c.requires.0) c.loop-top-test.true c.loop-top.invariant.0).low

pub loop-cell-init : goal.loop-cell-init
unfolding at_state
loop-cell-init c =
    releasing_first (decode c.args.table.now) (sized_read c.args.table.now c.type_inv.table c.requires.0) c.args.heads.now c.args.next.now c.requires.1 c.loop-top.marks c.loop-top.pending c.loop-top.stack (c.loop-top.top - 1) (get_or c.loop-top.stack (c.loop-top.top - 1) 0) c.loop-top.counts refl
    (again c.loop-top-test.true c.loop-top.invariant.0)

pub loop-top-smaller : goal.loop-top-smaller
loop-top-smaller c =
    let top = (on_top (decode c.args.table.now) (sized_read c.args.table.now c.type_inv.table c.requires.0) c.loop-top-test.true c.loop-top.invariant.0) in
    unmarked_less (decode c.args.table.now).states c.loop-top.marks (get_or c.loop-top.stack (c.loop-top.top - 1) 0) top.below (omega (arith, top.low, c.loop-top.invariant.0.counting.marks_long)) top.free

pub loop-top-preserved : goal.loop-top-preserved
loop-top-preserved c =
    let top = (on_top (decode c.args.table.now) (sized_read c.args.table.now c.type_inv.table c.requires.0) c.loop-top-test.true c.loop-top.invariant.0) in
    let low : (get_or c.loop-top.stack (c.loop-top.top - 1) 0) < length c.loop-top.marks = omega (arith, top.low, c.loop-top.invariant.0.counting.marks_long) in (
      releasing_stop (decode c.args.table.now) (sized_read c.args.table.now c.type_inv.table c.requires.0) (set c.loop-top.marks (get_or c.loop-top.stack (c.loop-top.top - 1) 0) true) (get_or c.loop-top.stack (c.loop-top.top - 1) 0) _ c.loop-cell.pending c.loop-cell.stack c.loop-cell.top c.loop-cell.counts c.loop-cell.cell c.loop-cell.invariant c.loop-cell-test.false,
      λ s m. marked_grows c.loop-top.marks (get_or c.loop-top.stack (c.loop-top.top - 1) 0) low s (c.loop-top.invariant.1 s m),
    )

pub overflow_sub-cell : goal.overflow_sub-cell
overflow_sub-cell c =
    omega (arith, chain_link (sized_read c.args.table.now c.type_inv.table c.requires.0).arcs c.loop-cell.invariant.chain (cell_parts c.state_of-u.ensures c.link_of-link.ensures) c.loop-cell-test.true)

pub offset_bounds-next-link : goal.offset_bounds-next-link
offset_bounds-next-link c =
    omega (arith, chain_link (sized_read c.args.table.now c.type_inv.table c.requires.0).arcs c.loop-cell.invariant.chain (cell_parts c.state_of-u.ensures c.link_of-link.ensures) c.loop-cell-test.true)

pub bounds-next-link : goal.bounds-next-link
bounds-next-link c =
    omega (arith, chain_link (sized_read c.args.table.now c.type_inv.table c.requires.0).arcs c.loop-cell.invariant.chain (cell_parts c.state_of-u.ensures c.link_of-link.ensures) c.loop-cell-test.true)

pub bounds-counts-u : goal.bounds-counts-u
bounds-counts-u c =
    omega (arith, releasing_source (decode c.args.table.now) (sized_read c.args.table.now c.type_inv.table c.requires.0) (set c.loop-top.marks (get_or c.loop-top.stack (c.loop-top.top - 1) 0) true) (get_or c.loop-top.stack (c.loop-top.top - 1) 0) _ c.loop-cell.pending c.loop-cell.stack c.loop-cell.top c.loop-cell.counts c.loop-cell.cell c.loop-cell.invariant c.loop-cell-test.true (cell_parts c.state_of-u.ensures c.link_of-link.ensures), (sized_read c.args.table.now c.type_inv.table c.requires.0).states)

pub bounds-counts-u-in-loop-cell : goal.bounds-counts-u-in-loop-cell
bounds-counts-u-in-loop-cell c =
    omega (arith, releasing_source (decode c.args.table.now) (sized_read c.args.table.now c.type_inv.table c.requires.0) (set c.loop-top.marks (get_or c.loop-top.stack (c.loop-top.top - 1) 0) true) (get_or c.loop-top.stack (c.loop-top.top - 1) 0) _ c.loop-cell.pending c.loop-cell.stack c.loop-cell.top c.loop-cell.counts c.loop-cell.cell c.loop-cell.invariant c.loop-cell-test.true (cell_parts c.state_of-u.ensures c.link_of-link.ensures), (sized_read c.args.table.now c.type_inv.table c.requires.0).states)

pub drop_pending-top-requires : goal.drop_pending-top-requires
drop_pending-top-requires c = (
  omega (arith, releasing_source (decode c.args.table.now) (sized_read c.args.table.now c.type_inv.table c.requires.0) (set c.loop-top.marks (get_or c.loop-top.stack (c.loop-top.top - 1) 0) true) (get_or c.loop-top.stack (c.loop-top.top - 1) 0) _ c.loop-cell.pending c.loop-cell.stack c.loop-cell.top c.loop-cell.counts c.loop-cell.cell c.loop-cell.invariant c.loop-cell-test.true (cell_parts c.state_of-u.ensures c.link_of-link.ensures), (sized_read c.args.table.now c.type_inv.table c.requires.0).states),
  c.loop-cell.invariant.counting.opened.long,
  c.loop-cell.invariant.counting.stacked.long,
  releasing_some (decode c.args.table.now) (sized_read c.args.table.now c.type_inv.table c.requires.0) (set c.loop-top.marks (get_or c.loop-top.stack (c.loop-top.top - 1) 0) true) (get_or c.loop-top.stack (c.loop-top.top - 1) 0) _ c.loop-cell.pending c.loop-cell.stack c.loop-cell.top c.loop-cell.counts c.loop-cell.cell c.loop-cell.invariant c.loop-cell-test.true (cell_parts c.state_of-u.ensures c.link_of-link.ensures),
  releasing_room (decode c.args.table.now) (sized_read c.args.table.now c.type_inv.table c.requires.0) (set c.loop-top.marks (get_or c.loop-top.stack (c.loop-top.top - 1) 0) true) (get_or c.loop-top.stack (c.loop-top.top - 1) 0) _ c.loop-cell.pending c.loop-cell.stack c.loop-cell.top c.loop-cell.counts c.loop-cell.cell c.loop-cell.invariant c.loop-cell-test.true (cell_parts c.state_of-u.ensures c.link_of-link.ensures),
)

pub loop-cell-smaller : goal.loop-cell-smaller
loop-cell-smaller c =
    chain_less (sized_read c.args.table.now c.type_inv.table c.requires.0).arcs c.loop-cell.invariant.chain (cell_parts c.state_of-u.ensures c.link_of-link.ensures) c.requires.1 c.loop-cell-test.true

pub loop-cell-preserved : goal.loop-cell-preserved
unfolding at_state
loop-cell-preserved c =
    releasing_next (decode c.args.table.now) (sized_read c.args.table.now c.type_inv.table c.requires.0) (set c.loop-top.marks (get_or c.loop-top.stack (c.loop-top.top - 1) 0) true) (get_or c.loop-top.stack (c.loop-top.top - 1) 0) _ c.loop-cell.pending c.loop-cell.stack c.loop-cell.top c.loop-cell.counts c.loop-cell.cell c.loop-cell.invariant c.loop-cell-test.true (cell_parts c.state_of-u.ensures c.link_of-link.ensures) c.args.heads.now c.args.next.now c.requires.1 c.add.result _ _ c.drop_pending-top.result c.add.ensures
    c.drop_pending-top.ensures

pub returns : goal.returns
returns c =
    (underway_rested (decode c.args.table.now) (sized_read c.args.table.now c.type_inv.table c.requires.0) c.loop-top.marks c.loop-top.pending c.loop-top.stack c.loop-top.top c.loop-top.counts (omega arith) c.loop-top.invariant.0, c.loop-top.invariant.1)
