use Rattle.std.proofs.Common.{arith}
use Rattle.listing.proofs.Short.{labels_none, labels_next, label_fits}
use Rattle.listing.proofs.text.put_labels.Goals as goal

pub loop-label-init : goal.loop-label-init
loop-label-init c = labels_none c.args.out.now c.args.at

pub put_byte-digits-requires : goal.put_byte-digits-requires
put_byte-digits-requires c =
    omega (arith, label_fits c.args.labels.now c.loop-label.label-index c.loop-label-test.true, c.requires, c.loop-label.invariant.ends, c.loop-label.auto.out)

pub put_decimal-end-requires : goal.put_decimal-end-requires
put_decimal-end-requires c =
    omega (
      arith,
      label_fits c.args.labels.now c.loop-label.label-index c.loop-label-test.true,
      c.requires,
      c.loop-label.invariant.ends,
      c.loop-label.auto.out,
      c.put_byte-digits.ensures.ends,
      c.put_byte-digits.auto.out,
    )

pub loop-label-preserved : goal.loop-label-preserved
loop-label-preserved c =
    labels_next c.args.labels.now c.loop-label.label-index c.loop-label-test.true c.loop-label.invariant c.put_byte-digits.ensures c.put_decimal-end.ensures
