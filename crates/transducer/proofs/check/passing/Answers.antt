-- Each test that lets the arc by is a fact about its bytes.
use Rattle.std.proofs.Common.{◌≡◌, ◌+◌, ◌<◌, true, arith, leb-false}
use Rattle.wire.specs.Bytes.{two, signed_four}
use Rattle.transducer.specs.Format.{weight_at}
use Rattle.transducer.proofs.check.passing.Goals as goal

pub returns : goal.returns
unfolding weight_at signed_four
returns c =
    let target : c.args.each ≡ true → two c.args.bytes.now (c.args.place + 10) < c.args.n =
    λ e. rw (← c.u16_at.ensures) (leb-false c.args.n c.u16_at.result (rw e at c.if-each-n.false)) in
    record {
      weight = rw c.u32_at.ensures at (c.weight_in.ensures c.if-not-weight_in.false);
      target = target;
      head = omega (arith, c.if-u32_at-ne-ARC_WORD.false, c.u32_at-2.ensures);
      source_is = c.u16_at-source.ensures;
      order = omega (arith, c.if-source-before.false);
    }
