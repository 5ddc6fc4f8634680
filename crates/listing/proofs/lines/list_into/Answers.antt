-- The listing is written and what lies behind it cleared.
use Rattle.std.proofs.Common.{arith}
use Rattle.wire.specs.Bytes.{cleared}
use Rattle.transducer.specs.Format.{decode}
use Rattle.paths.proofs.Ready.{sized_read}
use Rattle.listing.proofs.Wrote.{wrote_whole}
use Rattle.listing.proofs.NthLine.{listing_short}
use Rattle.listing.proofs.lines.list_into.Goals as goal

pub clear-requires : goal.clear-requires
clear-requires c =
    let short = listing_short (decode c.args.table.now) (sized_read c.args.table.now c.type_inv.table c.requires.0) in
    omega (arith, c.put_listing-end.ensures.ends, c.put_listing-end.auto.out, short, c.requires.1)

pub overflow_cast-result : goal.overflow_cast-result
overflow_cast-result c =
    let short = listing_short (decode c.args.table.now) (sized_read c.args.table.now c.type_inv.table c.requires.0) in
    omega (arith, c.put_listing-end.ensures.ends, short)

pub returns : goal.returns
unfolding cleared
returns c =
    let short = listing_short (decode c.args.table.now) (sized_read c.args.table.now c.type_inv.table c.requires.0) in
    wrote_whole c.put_listing-end.ensures short c.requires.1 c.clear.ensures 0
