use Prim.Native.Nat.{◌-◌}
use native.Mathlib.Omega.{arith}
use Rattle.transducer.specs.Format.{decode}
use Rattle.relaxation.proofs.Opened.{opened}
use Rattle.relaxation.proofs.FirstArcs.{before_first, first_before}
use Rattle.relaxation.proofs.seek.first_back.Goals as goal

pub returns-then-source-s : goal.returns-then-source-s
returns-then-source-s c =
    let t = decode c.args.table.now in
    let size = opened c.args.table.now c.type_inv.table c.requires.0 in
    let below =
    before_first t (c.loop-i.i - 1) c.args.s size.content (omega (arith, c.loop-i-test.true, c.requires.1))
    (omega (arith, c.source.ensures.0, c.if-source-s.true)) in
    omega (arith, below, c.loop-i.invariant, c.loop-i-test.true)

pub loop-i-preserved : goal.loop-i-preserved
loop-i-preserved c =
    let size = opened c.args.table.now c.type_inv.table c.requires.0 in
    first_before (decode c.args.table.now) (c.loop-i.i - 1) c.args.s size.content (omega (arith, c.loop-i-test.true, c.requires.1))
    (omega (arith, c.source.ensures.0, c.if-source-s.false))
