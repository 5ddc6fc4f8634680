use Rattle.std.proofs.Common.{arith, false, replicate}
use Rattle.transducer.specs.Format.{decode}
use Rattle.paths.specs.Counting.{by_marks}
use Rattle.paths.proofs.Ready.{sized_read}
use Rattle.paths.proofs.Counting.{opened_all, stacked_all}
use Rattle.paths.proofs.Rested.{underway_first, rested_all}
use Rattle.paths.proofs.counts.counts_of.Goals as goal

pub count_all-counts-requires : goal.count_all-counts-requires
count_all-counts-requires c =
    let a = c.args in
    let t = decode a.table.now in
    let left = c.link_arcs.new.pending in
    let put = c.push_ready-waiting in (
      c.requires.0.accepted,
      c.link_arcs.ensures.0,
      underway_first t (sized_read a.table.now c.type_inv.table c.requires.0.accepted) left put.new.stack put.result a.empty c.requires.4
          (opened_all t (by_marks t (replicate 1024 false)) a.arcs left c.requires.2 c.link_arcs.ensures.1)
          (stacked_all t a.states (replicate 1024 false) left put.new.stack put.result c.requires.1 put.ensures),
    )

pub returns-then-all_marked : goal.returns-then-all_marked
returns-then-all_marked c =
    let bs = c.args.table.now in
    rested_all (decode bs) (sized_read bs c.type_inv.table c.requires.0.accepted) _ c.count_all-counts.result
    c.count_all-counts.ensures.0 (λ s b. c.all_marked.ensures c.if-all_marked.true s (omega (arith, b, c.requires.1)))
