-- The measure is the number: its digits are those of a tenth of it, and the last one.
use Rattle.std.proofs.Common.{arith}
use Rattle.listing.proofs.Decimal.{decimal_small, decimal_large, length_decimal_small, length_decimal_large}
use Rattle.listing.proofs.Wrote.{wrote_then}
use Rattle.listing.proofs.text.+put_decimal.Goals as goal

pub put_byte-requires : goal.put_byte-requires
put_byte-requires t c = omega (arith, c.requires, length_decimal_small c.args.value c.if-value-lt10.true)

pub returns-then-value-lt10 : goal.returns-then-value-lt10
returns-then-value-lt10 t c = rw (decimal_small c.args.value c.if-value-lt10.true) c.put_byte.ensures

pub put_decimal-last-requires : goal.put_decimal-last-requires
put_decimal-last-requires t c =
    let large = c.if-value-lt10.false in
    (omega (arith, large, c.decreases), omega (arith, c.requires, length_decimal_large c.args.value large))

pub put_byte-requires-2 : goal.put_byte-requires-2
put_byte-requires-2 t c =
    omega (arith, c.requires, length_decimal_large c.args.value c.if-value-lt10.false, c.put_decimal-last.ensures.ends, c.put_decimal-last.auto.out)

pub returns : goal.returns
returns t c = rw (decimal_large c.args.value c.if-value-lt10.false) (wrote_then c.put_decimal-last.ensures c.put_byte-2.ensures)
