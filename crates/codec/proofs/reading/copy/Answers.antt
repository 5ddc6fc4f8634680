-- By the laws of `NumbersCopied`, whatever `load` reads.
use Rattle.std.proofs.Common.{arith}
use Rattle.codec.proofs.Copy.{copied_first, copied_next}
use Rattle.codec.proofs.reading.copy.Goals as goal

pub loop-i-init : goal.loop-i-init
loop-i-init g c = λ value is. copied_first value c.args.at c.args.step c.args.out.now

pub loop-i-preserved : goal.loop-i-preserved
loop-i-preserved g c =
    λ value is.
    copied_next value c.args.at c.args.step c.args.out.now c.loop-i.i c.load.result (omega arith) (is _ _ c.load.ensures) (c.loop-i.invariant value is)
