use Rattle.std.proofs.Common.{arith}
use Rattle.transducer.specs.Format.{decode}
use Rattle.paths.proofs.Ready.{index_last, sized_read}
use Rattle.paths.proofs.TopSorted.{empty_stop}
use Rattle.paths.proofs.entry.counts_by_state.Goals as goal

pub counts_sorted-requires : goal.counts_sorted-requires
counts_sorted-requires c =
    let a = c.args in
    let t = decode a.table.now in
    let z = sized_read a.table.now c.type_inv.table c.requires.0.opened.accepted in (
      c.requires.0.opened,
      index_last t a.index.now a.states z c.requires.0.indexed c.requires.0.states_are,
      empty_stop t t.states a.states c.empty_by_codes-empty.result (omega (arith, c.requires.0.states_are)) c.empty_by_codes-empty.ensures,
    )

pub counts_of-requires : goal.counts_of-requires
counts_of-requires c =
    let a = c.args in
    let t = decode a.table.now in
    let z = sized_read a.table.now c.type_inv.table c.requires.0.opened.accepted in (
      c.requires.0.opened,
      c.requires.0.states_are,
      index_last t a.index.now a.states z c.requires.0.indexed c.requires.0.states_are,
      c.requires.1,
      empty_stop t t.states a.states c.empty_by_codes-empty.result (omega (arith, c.requires.0.states_are)) c.empty_by_codes-empty.ensures,
    )
