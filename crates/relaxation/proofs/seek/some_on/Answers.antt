use native.Mathlib.Omega.{arith}
use Rattle.transducer.specs.Format.{decode}
use Rattle.transducer.proofs.Index.{arcs_below_length}
use Rattle.relaxation.proofs.Opened.{opened}
use Rattle.relaxation.proofs.FirstArcs.{first_before}
use Rattle.relaxation.proofs.seek.some_on.Goals as goal

pub returns-then-s-source : goal.returns-then-s-source
returns-then-s-source c =
    let size = opened c.args.table.now c.type_inv.table c.requires.0 in (
      first_before (decode c.args.table.now) c.loop-i.i c.args.s size.content (omega (arith, c.loop-i-test.true, c.requires.1))
          (omega (arith, c.source.ensures.0, c.if-s-source.true)),
      omega (arith, c.loop-i-test.true),
    )

pub returns : goal.returns
returns c = omega (arith, arcs_below_length c.args.s (decode c.args.table.now).arcs, c.requires.1)
