-- Two ways, by whether paths are infinitely many.
use Rattle.std.proofs.Common.{arith, length, ap}
use Rattle.transducer.specs.Format.{decode}
use Rattle.paths.proofs.Ready.{sized_read}
use Rattle.listing.specs.Text.{readings_word, endless_word}
use Rattle.listing.proofs.Wrote.{wrote_then}
use Rattle.listing.proofs.NthLine.{listing_endless, listing_finite, listing_short}
use Rattle.listing.proofs.lines.put_listing.Goals as goal

pub put_counted-requires : goal.put_counted-requires
unfolding readings_word
put_counted-requires c =
    let t = decode c.args.table.now in
    let short = listing_short t (sized_read c.args.table.now c.type_inv.table c.requires.0) in (
      record { bytes = λ i. omega (arith, c.type_inv.table i); prepared = c.prepare-shape.ensures; counted = c.in-Finite.ensures },
      omega (arith, ap length (listing_finite t c.in-Finite.ensures.finite), short, c.put_bytes-word.ensures.ends, c.put_bytes-word.auto.out, c.requires.1),
    )

pub returns-in-Endless : goal.returns-in-Endless
unfolding readings_word endless_word
returns-in-Endless c = rw (listing_endless (decode c.args.table.now) c.in-Endless.ensures.0) (wrote_then c.put_bytes-word.ensures c.put_bytes.ensures)

pub returns-in-Finite : goal.returns-in-Finite
unfolding readings_word
returns-in-Finite c =
    rw (listing_finite (decode c.args.table.now) c.in-Finite.ensures.finite) (wrote_then c.put_bytes-word.ensures c.put_counted.ensures)
