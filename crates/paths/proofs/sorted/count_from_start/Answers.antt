use Rattle.transducer.specs.Format.{decode}
use Rattle.paths.specs.Sweep.{at_state}
use Rattle.paths.proofs.Ready.{sized_read}
use Rattle.paths.proofs.NthSays.{start_count}
use Rattle.paths.proofs.sorted.count_from_start.Goals as goal

pub returns-then-counts_sorted : goal.returns-then-counts_sorted
unfolding at_state
returns-then-counts_sorted c =
    let a = c.args in
    let total = c.counts_sorted.ensures c.if-counts_sorted.true in
    record {
      finite = total.finite;
      complete = start_count (decode a.table.now) (sized_read a.table.now c.type_inv.table c.requires.0.accepted)
          c.counts_sorted.new.counts a.start total c.requires.3;
    }
