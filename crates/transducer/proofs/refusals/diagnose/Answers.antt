-- Bytes that pass the framing and the kinds have a head to read.
use Rattle.std.proofs.Common.{sym, ◌∙◌, arith}
use Rattle.transducer.proofs.Laid.{kinds_long}
use Rattle.transducer.proofs.refusals.diagnose.Goals as goal

pub u16_at-n-requires : goal.u16_at-n-requires
u16_at-n-requires c =
    omega (
      arith,
      kinds_long c.args.bytes.now (sym c.framing_ok.ensures ∙ c.if-not-framing_ok.false) (sym c.kinds_ok.ensures ∙ c.if-not-kinds_ok.false),
    )

pub u16_at-m-requires : goal.u16_at-m-requires
u16_at-m-requires c =
    omega (
      arith,
      kinds_long c.args.bytes.now (sym c.framing_ok.ensures ∙ c.if-not-framing_ok.false) (sym c.kinds_ok.ensures ∙ c.if-not-kinds_ok.false),
    )

pub u16_at-f-requires : goal.u16_at-f-requires
u16_at-f-requires c =
    omega (
      arith,
      kinds_long c.args.bytes.now (sym c.framing_ok.ensures ∙ c.if-not-framing_ok.false) (sym c.kinds_ok.ensures ∙ c.if-not-kinds_ok.false),
    )

pub u16_at-start-requires : goal.u16_at-start-requires
u16_at-start-requires c =
    omega (
      arith,
      kinds_long c.args.bytes.now (sym c.framing_ok.ensures ∙ c.if-not-framing_ok.false) (sym c.kinds_ok.ensures ∙ c.if-not-kinds_ok.false),
    )
