-- Five parts, each right behind the one before: the number, a blank and the cost, the labels, a newline.
use Rattle.std.proofs.Common.{arith}
use Rattle.std.proofs.Math.Facts.{to_z-of_z}
use Rattle.listing.specs.Text.{line}
use Rattle.listing.proofs.Wrote.{wrote_then}
use Rattle.listing.proofs.Short.{length_line}
use Rattle.listing.proofs.text.put_line.Goals as goal

pub put_decimal-number-requires : goal.put_decimal-number-requires
put_decimal-number-requires c = omega (arith, length_line c.args.k c.args.cost c.args.labels.now, c.requires)

pub put_byte-gap-requires : goal.put_byte-gap-requires
put_byte-gap-requires c =
    omega (arith, length_line c.args.k c.args.cost c.args.labels.now, c.requires, c.put_decimal-number.ensures.ends, c.put_decimal-number.auto.out)

pub put_cost-paid-requires : goal.put_cost-paid-requires
put_cost-paid-requires c =
    rw (to_z-of_z c.ranges.cost) (omega (
      arith,
      length_line c.args.k c.args.cost c.args.labels.now,
      c.requires,
      c.put_decimal-number.ensures.ends,
      c.put_decimal-number.auto.out,
      c.put_byte-gap.ensures.ends,
      c.put_byte-gap.auto.out,
    ))

pub put_labels-told-requires : goal.put_labels-told-requires
put_labels-told-requires c =
    let paid = rw (to_z-of_z c.ranges.cost) at c.put_cost-paid.ensures in
    omega (
      arith,
      length_line c.args.k c.args.cost c.args.labels.now,
      c.requires,
      c.put_decimal-number.ensures.ends,
      c.put_decimal-number.auto.out,
      c.put_byte-gap.ensures.ends,
      c.put_byte-gap.auto.out,
      paid.ends,
      c.put_cost-paid.auto.out,
    )

pub put_byte-requires : goal.put_byte-requires
put_byte-requires c =
    let paid = rw (to_z-of_z c.ranges.cost) at c.put_cost-paid.ensures in
    omega (
      arith,
      length_line c.args.k c.args.cost c.args.labels.now,
      c.requires,
      c.put_decimal-number.ensures.ends,
      c.put_decimal-number.auto.out,
      c.put_byte-gap.ensures.ends,
      c.put_byte-gap.auto.out,
      paid.ends,
      c.put_cost-paid.auto.out,
      c.put_labels-told.ensures.ends,
      c.put_labels-told.auto.out,
    )

pub returns : goal.returns
unfolding line
returns c =
    let paid = rw (to_z-of_z c.ranges.cost) at c.put_cost-paid.ensures in
    let number_and_cost = wrote_then c.put_decimal-number.ensures (wrote_then c.put_byte-gap.ensures paid) in
    wrote_then (wrote_then number_and_cost c.put_labels-told.ensures) c.put_byte.ensures
