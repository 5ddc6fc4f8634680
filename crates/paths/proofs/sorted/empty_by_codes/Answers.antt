use Rattle.std.proofs.Common.{arith}
use Rattle.transducer.specs.Format.{decode}
use Rattle.paths.proofs.TopSorted.{empty_next}
use Rattle.paths.proofs.sorted.empty_by_codes.Goals as goal

pub loop-s-preserved : goal.loop-s-preserved
loop-s-preserved c =
    empty_next (decode c.args.table.now) c.args.codes.now c.loop-s.s c.loop-s.counts c.own.result c.requires.0 (omega arith) c.own.ensures
    c.loop-s.invariant
