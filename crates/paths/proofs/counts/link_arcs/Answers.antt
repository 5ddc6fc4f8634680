use Rattle.std.proofs.Common.{arith, ◌≡◌, ◌<◌, true, false, replicate}
use Rattle.transducer.specs.Format.{decode}
use Rattle.reach.proofs.Chains.{chaining_first, chaining_next, chaining_stop}
use Rattle.paths.specs.Counting.{by_marks}
use Rattle.paths.proofs.Ready.{few_states, few_arcs}
use Rattle.paths.proofs.Counting.{opened_first, opened_next, opened_few}
use Rattle.paths.proofs.Rested.{none_done}
use Rattle.paths.proofs.counts.link_arcs.Goals as goal

pub loop-i-init : goal.loop-i-init
loop-i-init c =
    let t = decode c.args.table.now in
    record {
      chained = rw c.requires.2 (chaining_first t true c.args.next.now c.requires.3);
      opened = rw c.requires.4 (opened_first t (by_marks t (replicate 1024 false)));
    }

pub overflow_add-pending : goal.overflow_add-pending
overflow_add-pending c =
    let t = decode c.args.table.now in
    let low : c.source-s.result < 1024 = omega (arith, few_states c.args.table.now c.type_inv.table c.requires.0.accepted) in
    omega (
      arith,
      few_arcs c.args.table.now c.type_inv.table c.requires.0.accepted,
      opened_few t (by_marks t (replicate 1024 false)) c.loop-i.i c.loop-i.pending c.loop-i.invariant.opened c.source-s.result low,
    )

pub loop-i-preserved : goal.loop-i-preserved
loop-i-preserved c =
    let t = decode c.args.table.now in
    let states = few_states c.args.table.now c.type_inv.table c.requires.0.accepted in
    let arcs = few_arcs c.args.table.now c.type_inv.table c.requires.0.accepted in
    let from : c.source-s.result < 1024 = omega arith in
    let to : c.target-to.result < 1024 = omega arith in
    let few : c.loop-i.i < 3072 = omega arith in
    record {
      chained = rw c.cell_of.ensures
          (chaining_next c.target-to.result c.source-s.result few to c.target-to.ensures.0 c.source-s.ensures.0 c.loop-i.invariant.chained);
      opened = opened_next t (by_marks t (replicate 1024 false)) c.loop-i.i c.loop-i.pending c.source-s.result c.loop-i.invariant.opened
          (none_done t c.loop-i.i) c.source-s.ensures.0 from;
    }

pub returns : goal.returns
returns c =
    let all : c.loop-i.i ≡ c.args.arcs = omega arith in
    (chaining_stop (omega arith) c.loop-i.invariant.chained, rw all at c.loop-i.invariant.opened)
