-- What walking to a path asks for. Assumes nothing: these are definitions.
use Rattle.wire.specs.Bytes.{Bytes}
use Rattle.transducer.specs.Format.{decode}
use Rattle.transducer.specs.Prepare.{Prepared}
use Rattle.paths.specs.Sweep.{Totalled}
use Rattle.listing.specs.declared.lines.Walk.{Walk}

-- Bytes that are prepared, with finitely many accepting paths, and the counts by state.
pub record PathsCounted (w : Walk) : Type 0 where
  pub bytes : Bytes w.table.now
  pub prepared : Prepared w.table.now w.shape w.index.now w.codes.now
  pub counted : Totalled (decode w.table.now) w.counts.now
