-- The digits are those of the magnitude, with a minus sign before them where the test says that the cost is below 0.
use Rattle.std.proofs.Common.{◌≡◌, true, false, arith, length, ap, subst}
use Rattle.std.proofs.Math.Facts.{to_z-of_z}
use Rattle.transducer.specs.Weight.{Weight, no_weight, at_most, magnitude}
use Rattle.listing.proofs.Short.{cost_above, cost_below}
use Rattle.listing.proofs.Wrote.{wrote_then}
use Rattle.listing.proofs.text.put_cost.Goals as goal

pub put_decimal-requires : goal.put_decimal-requires
put_decimal-requires c =
    let test = subst (λ (z : Weight). at_most no_weight z ≡ true) (to_z-of_z c.ranges.cost) c.if-cost-ge0.true in
    rw (c.unsigned_abs-size.ensures.value, to_z-of_z c.ranges.cost) (omega (arith, ap length (cost_above c.args.cost test), c.requires))

pub returns-then-cost-ge0 : goal.returns-then-cost-ge0
returns-then-cost-ge0 c =
    let test = subst (λ (z : Weight). at_most no_weight z ≡ true) (to_z-of_z c.ranges.cost) c.if-cost-ge0.true in
    let size : c.unsigned_abs-size.result ≡ magnitude c.args.cost = rw (to_z-of_z c.ranges.cost) at c.unsigned_abs-size.ensures.value in
    rw (cost_above c.args.cost test) (rw size at c.put_decimal.ensures)

pub put_byte-digits-requires : goal.put_byte-digits-requires
put_byte-digits-requires c =
    let test = subst (λ (z : Weight). at_most no_weight z ≡ false) (to_z-of_z c.ranges.cost) c.if-cost-ge0.false in
    omega (arith, ap length (cost_below c.args.cost test), c.requires)

pub put_decimal-requires-2 : goal.put_decimal-requires-2
put_decimal-requires-2 c =
    let test = subst (λ (z : Weight). at_most no_weight z ≡ false) (to_z-of_z c.ranges.cost) c.if-cost-ge0.false in
    rw (c.unsigned_abs-size.ensures.value, to_z-of_z c.ranges.cost)
    (omega (arith, ap length (cost_below c.args.cost test), c.requires, c.put_byte-digits.ensures.ends, c.put_byte-digits.auto.out))

pub returns : goal.returns
returns c =
    let test = subst (λ (z : Weight). at_most no_weight z ≡ false) (to_z-of_z c.ranges.cost) c.if-cost-ge0.false in
    let size : c.unsigned_abs-size.result ≡ magnitude c.args.cost = rw (to_z-of_z c.ranges.cost) at c.unsigned_abs-size.ensures.value in
    rw (cost_below c.args.cost test) (wrote_then c.put_byte-digits.ensures (rw size at c.put_decimal-2.ensures))
