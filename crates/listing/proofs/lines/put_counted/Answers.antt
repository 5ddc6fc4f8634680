-- Two ways, by the count at the start; `counted_many` and `counted_few` say what the text is in each.
use Rattle.std.proofs.Common.{◌≡◌, ◌<◌, ◌+◌, ◌∷◌, arith, length, length-append, ap}
use Rattle.transducer.specs.Format.{decode}
use Rattle.paths.specs.Count.{path_count, most_counted}
use Rattle.paths.specs.Sweep.{at_state}
use Rattle.paths.proofs.Ready.{sized}
use Rattle.paths.proofs.NthSays.{start_count}
use Rattle.listing.specs.declared.lines.Walk.{Walk}
use Rattle.listing.specs.Text.{decimal, newline, many_word, lines, counted_text}
use Rattle.listing.specs.PathsCounted.{PathsCounted}
use Rattle.listing.proofs.Wrote.{wrote_then}
use Rattle.listing.proofs.NthLine.{counted_many, counted_few}
use Rattle.listing.proofs.lines.put_counted.Goals as goal

-- The count at the start is that of all paths.
count_is : (w : Walk) → PathsCounted w → at_state w.counts.now w.shape.start ≡ path_count (decode w.table.now)
count_is w p =
    start_count (decode w.table.now) (sized w.table.now p.bytes p.prepared.shaped.opened.accepted) w.counts.now w.shape.start p.counted
    p.prepared.shaped.start_is

pub put_bytes-requires : goal.put_bytes-requires
unfolding at_state many_word
put_bytes-requires c =
    let w = c.args.walk.now in
    let text = counted_many (decode w.table.now) (at_state w.counts.now w.shape.start) (count_is w c.requires.0) c.if-count-ge-MAX_COUNT.true in
    omega (arith, ap length text, c.requires.1)

pub returns-then-count-ge-MAX_COUNT : goal.returns-then-count-ge-MAX_COUNT
unfolding at_state many_word
returns-then-count-ge-MAX_COUNT c =
    let w = c.args.walk.now in
    rw (counted_many (decode w.table.now) (at_state w.counts.now w.shape.start) (count_is w c.requires.0) c.if-count-ge-MAX_COUNT.true) c.put_bytes.ensures

-- What the parts take of the text.
length_few : (w : Walk) → PathsCounted w → at_state w.counts.now w.shape.start < most_counted
    → length (counted_text (decode w.table.now))
    ≡ length (decimal (at_state w.counts.now w.shape.start)) + (1 + length (lines (decode w.table.now) (at_state w.counts.now w.shape.start)))
length_few w p few =
    let t = decode w.table.now in
    let n = at_state w.counts.now w.shape.start in
    omega (arith, ap length (counted_few t n (count_is w p) few), length-append (decimal n) (newline ∷ lines t n))

pub put_decimal-number-requires : goal.put_decimal-number-requires
unfolding at_state
put_decimal-number-requires c = omega (arith, length_few c.args.walk.now c.requires.0 c.if-count-ge-MAX_COUNT.false, c.requires.1)

pub put_byte-lines-requires : goal.put_byte-lines-requires
unfolding at_state
put_byte-lines-requires c =
    omega (
      arith,
      length_few c.args.walk.now c.requires.0 c.if-count-ge-MAX_COUNT.false,
      c.requires.1,
      c.put_decimal-number.ensures.ends,
      c.put_decimal-number.auto.out,
    )

pub put_paths-requires : goal.put_paths-requires
unfolding at_state
put_paths-requires c = (
  c.requires.0,
  count_is c.args.walk.now c.requires.0,
  omega (
    arith,
    length_few c.args.walk.now c.requires.0 c.if-count-ge-MAX_COUNT.false,
    c.requires.1,
    c.put_decimal-number.ensures.ends,
    c.put_decimal-number.auto.out,
    c.put_byte-lines.ensures.ends,
    c.put_byte-lines.auto.out,
  ),
)

pub returns : goal.returns
unfolding at_state
returns c =
    let w = c.args.walk.now in
    rw (counted_few (decode w.table.now) (at_state w.counts.now w.shape.start) (count_is w c.requires.0) c.if-count-ge-MAX_COUNT.false)
    (wrote_then c.put_decimal-number.ensures (wrote_then c.put_byte-lines.ensures c.put_paths.ensures))
