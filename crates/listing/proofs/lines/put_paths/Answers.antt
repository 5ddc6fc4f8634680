use Rattle.std.proofs.Common.{arith}
use Rattle.transducer.specs.Format.{decode}
use Rattle.listing.proofs.Short.{lines_none, lines_next, line_fits}
use Rattle.listing.proofs.lines.put_paths.Goals as goal

pub loop-k-init : goal.loop-k-init
loop-k-init c = lines_none (decode c.args.walk.now.table.now) c.args.out.now c.args.at

pub put_path-end-requires : goal.put_path-end-requires
put_path-end-requires c =
    let fits = line_fits (decode c.args.walk.now.table.now) c.loop-k.k c.args.count c.loop-k-test.true in
    (c.requires.0, omega (arith, c.loop-k-test.true, c.requires.1), omega (arith, fits, c.loop-k.invariant.ends, c.loop-k.auto.out, c.requires.2))

pub loop-k-preserved : goal.loop-k-preserved
loop-k-preserved c = lines_next (decode c.args.walk.now.table.now) c.loop-k.k c.loop-k.invariant c.put_path-end.ensures
