use Rattle.std.proofs.Common.{◌≡◌, sym, ◌∙◌, arith}
use Rattle.wire.specs.Bytes.{two}
use Rattle.transducer.proofs.Records.{framed_head, kinds_none, kinds_not_head, kinds_not_8, going_first, going_fits, going_more, going_wrong, going_done}
use Rattle.transducer.proofs.refusals.kinds_ok.Goals as goal

pub returns-then-bytes-eq0 : goal.returns-then-bytes-eq0
returns-then-bytes-eq0 c = sym (kinds_none c.args.bytes.now c.if-bytes-eq0.true)

pub u16_at-requires : goal.u16_at-requires
u16_at-requires c = omega (arith, framed_head c.args.bytes.now c.requires (omega arith))

pub returns-then-u16_at-ne1 : goal.returns-then-u16_at-ne1
returns-then-u16_at-ne1 c = sym (kinds_not_head c.args.bytes.now (omega arith) (λ e. c.if-u16_at-ne1.true (c.u16_at.ensures ∙ e)))

pub u16_at-requires-2 : goal.u16_at-requires-2
u16_at-requires-2 c = omega (arith, framed_head c.args.bytes.now c.requires (omega arith))

pub returns-then-u16_at-ne8 : goal.returns-then-u16_at-ne8
returns-then-u16_at-ne8 c =
    let kind : two c.args.bytes.now 2 ≡ 1 = sym c.u16_at.ensures ∙ c.if-u16_at-ne1.false in
    sym (kinds_not_8 c.args.bytes.now (omega arith) kind (λ e. c.if-u16_at-ne8.true (c.u16_at-2.ensures ∙ e)))

pub loop-at-init : goal.loop-at-init
loop-at-init c =
    let kind : two c.args.bytes.now 2 ≡ 1 = sym c.u16_at.ensures ∙ c.if-u16_at-ne1.false in
    let size : two c.args.bytes.now 0 ≡ 8 = sym c.u16_at-2.ensures ∙ c.if-u16_at-ne8.false in
    going_first c.args.bytes.now c.requires (omega arith) kind size

pub u16_at-size-requires : goal.u16_at-size-requires
u16_at-size-requires c = omega (arith, going_fits c.loop-at.invariant c.loop-at-test.true)

pub u16_at-kind-requires : goal.u16_at-kind-requires
u16_at-kind-requires c = omega (arith, going_fits c.loop-at.invariant c.loop-at-test.true)

pub returns-then-not-kind_ok : goal.returns-then-not-kind_ok
returns-then-not-kind_ok c =
    sym (going_wrong c.u16_at-kind.result c.u16_at-size.result c.loop-at.invariant c.loop-at-test.true c.u16_at-kind.ensures c.u16_at-size.ensures (sym c.kind_ok.ensures ∙ c.if-not-kind_ok.true))

pub loop-at-preserved : goal.loop-at-preserved
loop-at-preserved c =
    going_more c.u16_at-kind.result c.u16_at-size.result c.loop-at.invariant c.loop-at-test.true c.u16_at-kind.ensures c.u16_at-size.ensures (sym c.kind_ok.ensures ∙ c.if-not-kind_ok.false)

pub returns : goal.returns
returns c = sym (going_done c.loop-at.invariant c.loop-at-test.false)
