use Rattle.std.proofs.Common.{◌≡◌, ◌+◌, sym, refl, ◌∙◌, arith}
use Rattle.wire.specs.Bytes.{two}
use Rattle.transducer.specs.Format.{framed}
use Rattle.transducer.proofs.Records.{framed_end, framed_short, framed_past, framed_next}
use Rattle.transducer.proofs.refusals.framing_ok.Goals as goal

pub loop-at-init : goal.loop-at-init
unfolding framed
loop-at-init c = (omega arith, refl)

pub returns-then-bytes-at-lt4 : goal.returns-then-bytes-at-lt4
returns-then-bytes-at-lt4 c = sym (framed_short c.args.bytes.now c.loop-at.at c.loop-at-test.true (omega arith)) ∙ c.loop-at.invariant.1

pub returns-then-bytes-at : goal.returns-then-bytes-at
returns-then-bytes-at c =
    let size : c.u16_at-size.result ≡ two c.args.bytes.now c.loop-at.at = c.u16_at-size.ensures in
    sym (framed_past c.args.bytes.now c.loop-at.at (omega arith) (omega arith)) ∙ c.loop-at.invariant.1

pub loop-at-preserved : goal.loop-at-preserved
loop-at-preserved c =
    let size : c.u16_at-size.result ≡ two c.args.bytes.now c.loop-at.at = c.u16_at-size.ensures in
    let next : c.loop-at.at + (4 + c.u16_at-size.result) ≡ c.loop-at.at + 4 + two c.args.bytes.now c.loop-at.at = omega arith in
    (omega arith, rw next (sym (framed_next c.args.bytes.now c.loop-at.at (omega arith)) ∙ c.loop-at.invariant.1))

pub returns : goal.returns
returns c = sym (framed_end c.args.bytes.now c.loop-at.at c.loop-at-test.false) ∙ c.loop-at.invariant.1
