use Prim.Native.Nat.{◌-◌}
use native.Mathlib.Omega.{arith}
use Rattle.transducer.specs.Format.{decode}
use Rattle.relaxation.proofs.Opened.{opened}
use Rattle.relaxation.proofs.FirstArcs.{first_before}
use Rattle.relaxation.proofs.seek.strides_back.Goals as goal

pub loop-i-preserved : goal.loop-i-preserved
loop-i-preserved c =
    let size = opened c.args.table.now c.type_inv.table c.requires.0 in (
      first_before (decode c.args.table.now) (c.loop-i.i - 32) c.args.s size.content
          (omega (arith, c.loop-i-test.true, c.loop-i.invariant.1, c.requires.1)) (omega (arith, c.source.ensures.0, c.if-source-s.false)),
      omega (arith, c.loop-i.invariant.1),
    )
