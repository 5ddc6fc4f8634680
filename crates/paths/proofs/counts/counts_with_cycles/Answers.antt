-- Where no dead state is unmarked the counts stand (`rested_live`); else those that wait are counted too (`underway_dead`, `rested_dead`).
use Rattle.std.proofs.Common.{arith}
use Rattle.transducer.specs.Format.{decode}
use Rattle.capped.specs.Marks.{marked}
use Rattle.paths.specs.Counting.{by_marks}
use Rattle.paths.proofs.Ready.{sized_read}
use Rattle.paths.proofs.Counting.{opened_all, stacked_all}
use Rattle.paths.proofs.Rested.{rested_live, dead_all, underway_dead, rested_dead}
use Rattle.paths.proofs.counts.counts_with_cycles.Goals as goal

pub returns-then-not-dead_unmarked : goal.returns-then-not-dead_unmarked
unfolding marked
returns-then-not-dead_unmarked c =
    let a = c.args in
    let z = sized_read a.table.now c.type_inv.table c.requires.0.accepted in
    rw c.totals.ensures
    (rested_live (decode a.table.now) z c.coaccessible_chained-live.result a.marks.now a.start a.parts c.coaccessible_chained-live.ensures c.requires.5
    (λ s b. c.dead_unmarked.ensures c.if-not-dead_unmarked.true s (omega (arith, b, c.requires.1))) c.requires.3)

pub count_all-counts-requires : goal.count_all-counts-requires
count_all-counts-requires c =
    let a = c.args in
    let t = decode a.table.now in
    let z = sized_read a.table.now c.type_inv.table c.requires.0.accepted in
    let live = c.coaccessible_chained-live in
    let ms = c.mark_dead.new.marks in
    let left = c.count_open.new.pending in
    let put = c.push_ready-waiting in (
      c.requires.0.accepted,
      c.requires.4,
      underway_dead t z live.result a.marks.now ms a.parts live.ensures c.requires.5
          (dead_all t a.states live.result a.marks.now ms c.requires.1 c.mark_dead.ensures) left put.new.stack put.result
          (opened_all t (by_marks t ms) a.arcs left c.requires.2 c.count_open.ensures)
          (stacked_all t a.states ms left put.new.stack put.result c.requires.1 put.ensures),
    )

pub returns : goal.returns
unfolding marked
returns c =
    let a = c.args in
    let t = decode a.table.now in
    let z = sized_read a.table.now c.type_inv.table c.requires.0.accepted in
    let live = c.coaccessible_chained-live in
    let ms = c.mark_dead.new.marks in
    let done = c.count_all-counts in
    rw c.totals-2.ensures
    (rested_dead t z live.result a.marks.now ms a.parts live.ensures c.requires.5
    (dead_all t a.states live.result a.marks.now ms c.requires.1 c.mark_dead.ensures) done.new.marks a.start done.result done.ensures.0 done.ensures.1
    c.requires.3)
