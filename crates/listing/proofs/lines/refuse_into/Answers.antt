-- The word, the number and a newline, then zeros.
use Rattle.std.proofs.Common.{arith}
use Rattle.wire.specs.Bytes.{cleared}
use Rattle.listing.specs.Text.{refused_word, refused_text}
use Rattle.listing.proofs.Decimal.{ten_digits}
use Rattle.listing.proofs.Wrote.{wrote_then, wrote_whole}
use Rattle.listing.proofs.Short.{refused_short}
use Rattle.listing.proofs.lines.refuse_into.Goals as goal

pub put_decimal-shown-requires : goal.put_decimal-shown-requires
put_decimal-shown-requires c = omega (arith, ten_digits c.args.number (omega arith), c.put_bytes-word.ensures.ends)

pub put_byte-end-requires : goal.put_byte-end-requires
put_byte-end-requires c =
    omega (arith, ten_digits c.args.number (omega arith), c.put_bytes-word.ensures.ends, c.put_decimal-shown.ensures.ends)

pub clear-requires : goal.clear-requires
unfolding refused_text refused_word
clear-requires c =
    let whole = wrote_then c.put_bytes-word.ensures (wrote_then c.put_decimal-shown.ensures c.put_byte-end.ensures) in
    omega (arith, whole.ends, refused_short c.args.number (omega arith))

pub overflow_cast-result : goal.overflow_cast-result
unfolding refused_text refused_word
overflow_cast-result c =
    let whole = wrote_then c.put_bytes-word.ensures (wrote_then c.put_decimal-shown.ensures c.put_byte-end.ensures) in
    omega (arith, whole.ends, refused_short c.args.number (omega arith))

pub returns : goal.returns
unfolding cleared refused_text refused_word
returns c =
    let whole = wrote_then c.put_bytes-word.ensures (wrote_then c.put_decimal-shown.ensures c.put_byte-end.ensures) in
    wrote_whole whole (omega (arith, refused_short c.args.number (omega arith))) c.requires c.clear.ensures c.args.number
