use Rattle.std.proofs.Common.{sym, ◌∙◌, arith}
use Rattle.transducer.proofs.Named.{searching_first, searching_any, searching_next, searching_stop}
use Rattle.transducer.proofs.naming.no_any_among.Goals as goal

pub loop-i-init : goal.loop-i-init
loop-i-init c = searching_first _ _ _

pub returns-then-u16_at : goal.returns-then-u16_at
returns-then-u16_at c = searching_any c.loop-i.invariant c.loop-i-test.true (sym c.u16_at.ensures ∙ c.if-u16_at.true)

pub loop-i-preserved : goal.loop-i-preserved
loop-i-preserved c = searching_next c.loop-i.invariant c.loop-i-test.true (omega (arith, c.u16_at.ensures, c.if-u16_at.false, c.u16_at.type_inv))

pub returns : goal.returns
returns c = searching_stop c.loop-i.invariant c.loop-i-test.false
