use Rattle.std.proofs.Common.{◌-◌, ◌/◌, ◌^◌, arith, ltb-true}
use lib.Bits.{bit_and, and_mask}
use Rattle.transducer.proofs.FastCheck.{good_up_to}
use Rattle.transducer.proofs.check.labels_bounded.Goals as goal

pub returns-then-any-barred : goal.returns-then-any-barred
returns-then-any-barred c e =
    let any = c.args.any in
    good_up_to any (omega (arith, and_mask (any / 65536) 16, c.if-any-barred.true, c.from-barred.ensures))
    (omega (arith, and_mask (any / 4294967296) 16, c.from-barred.ensures, ltb-true (bit_and (any / 4294967296) (2 ^ 16 - 1)) c.from-barred.result e))
