-- A table of few states has arrays of as many cells as those may be, and every other of as many as there can be.
use Rattle.std.proofs.Common.{sym, arith}
use Rattle.wire.specs.Bytes.{Bytes}
use Rattle.transducer.specs.Format.{decode}
use Rattle.reach.proofs.Sized.{Sized, sized}
use Rattle.shortest.proofs.entry.shortest_accepted.Goals as goal

pub shortest_in-requires : goal.shortest_in-requires
shortest_in-requires c = (c.requires.0, c.is_small.ensures c.if-is_small.true, omega arith, c.requires.1, c.requires.2)

pub shortest_in-requires-2 : goal.shortest_in-requires-2
shortest_in-requires-2 c =
    let bytes : Bytes c.args.table.now = λ i. (c.type_inv.table i).fits in
    let z : Sized (decode c.args.table.now) = sized c.args.table.now bytes (sym c.requires.0.refusal_is) in
    (c.requires.0, z.states, omega arith, c.requires.1, c.requires.2)
