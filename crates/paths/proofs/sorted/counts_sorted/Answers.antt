use Rattle.std.proofs.Common.{arith, ◌≡◌, ◌-◌}
use Rattle.transducer.specs.Format.{decode}
use Rattle.paths.specs.Sweep.{at_state}
use Rattle.paths.proofs.Ready.{sized_read}
use Rattle.paths.proofs.TopSorted.{passed_first, passed_next, passed_most, passed_all}
use Rattle.paths.proofs.sorted.counts_sorted.Goals as goal

pub loop-i-init : goal.loop-i-init
loop-i-init c = passed_first (decode c.args.table.now) c.args.arcs c.args.counts.now c.requires.1 c.requires.2

pub loop-i-preserved-then-here-ne-MOST : goal.loop-i-preserved-then-here-ne-MOST
unfolding at_state
loop-i-preserved-then-here-ne-MOST c =
    let bs = c.args.table.now in
    passed_next (decode bs) (sized_read bs c.type_inv.table c.requires.0.accepted) c.loop-i.i (c.loop-i.i - 1) c.loop-i.counts
    c.source-s.result c.target-to.result c.add.result (omega arith) c.loop-i.invariant c.source-s.ensures.0 c.target-to.ensures.0 c.if-to-s.false
    c.add.ensures

pub loop-i-preserved : goal.loop-i-preserved
unfolding at_state
loop-i-preserved c =
    passed_most (decode c.args.table.now) c.loop-i.i (c.loop-i.i - 1) c.loop-i.counts c.source-s.result c.target-to.result (omega arith)
    c.loop-i.invariant c.source-s.ensures.0 c.target-to.ensures.0 c.if-to-s.false (omega arith)

pub returns : goal.returns
returns c =
    let bs = c.args.table.now in
    let none : c.loop-i.i ≡ 0 = omega arith in
    λ _. passed_all (decode bs) (sized_read bs c.type_inv.table c.requires.0.accepted) c.loop-i.counts (rw none at c.loop-i.invariant)
