-- The laws of `Along` carry the loop. In a turn `next` leads to an arc, and its record lies within the bytes.
use mathlib.Core.Path.{sym, ◌∙◌}
use Prim.Native.Nat.{◌+◌, ◌*◌, ◌-◌, ◌≤◌}
use native.Mathlib.Omega.{arith}
use lib.ListN.{length}
use Rattle.transducer.proofs.AcceptedAt.{opened_inside}
use Rattle.steps.proofs.Links.{along_none, along_in, along_found, along_next, along_less, side_reads, side_other}
use Rattle.steps.proofs.lookup.along.Goals as goal

inside : (c : goal.In-loop-next) → c.args.rfirst + 16 * (c.loop-next.next - 1 + 1) ≤ length c.args.right.now
inside c =
    let leads = c.requires.1 in
    let is_in = along_in leads.1 (c.loop-next.invariant leads.0 leads.1) c.loop-next-test.true in
    opened_inside c.args.right.now (λ i. omega (arith, c.type_inv.right i)) c.args.rfirst c.requires.0 (c.loop-next.next - 1 + 1)
    (omega (arith, is_in.1))

pub overflow_add-rfirst : goal.overflow_add-rfirst
overflow_add-rfirst c = omega (arith, inside c)

pub overflow_add-rfirst-in-loop-next : goal.overflow_add-rfirst-in-loop-next
overflow_add-rfirst-in-loop-next c = omega (arith, inside c)

pub u32_at-requires : goal.u32_at-requires
u32_at-requires c = omega (arith, inside c)

pub returns-then-u32_at-both : goal.returns-then-u32_at-both
returns-then-u32_at-both c = λ from leads.
    let a = c.args in
    let inv = c.loop-next.invariant from leads in
    let is_in = along_in leads inv c.loop-next-test.true in
    along_found leads inv c.loop-next-test.true
    (side_reads a.right.now (λ i. omega (arith, c.type_inv.right i)) a.rfirst c.requires.0 a.q a.label (c.loop-next.next - 1) is_in.1
    (omega (arith, c.ranges.q)) (sym c.u32_at.ensures ∙ c.if-u32_at-both.true))

pub bounds-chain-j : goal.bounds-chain-j
bounds-chain-j c =
    let leads = c.requires.1 in
    let is_in = along_in leads.1 (c.loop-next.invariant leads.0 leads.1) c.loop-next-test.true in
    omega (arith, is_in.1, leads.1.chained.long)

pub loop-next-smaller : goal.loop-next-smaller
loop-next-smaller c = let leads = c.requires.1 in along_less leads.1 (c.loop-next.invariant leads.0 leads.1) c.loop-next-test.true

pub loop-next-preserved : goal.loop-next-preserved
loop-next-preserved c = λ from leads.
    let a = c.args in
    let inv = c.loop-next.invariant from leads in
    let is_in = along_in leads inv c.loop-next-test.true in
    along_next leads inv c.loop-next-test.true
    (side_other a.right.now (λ i. omega (arith, c.type_inv.right i)) a.rfirst c.requires.0 a.q a.label (c.loop-next.next - 1) is_in.1
    (λ e. c.if-u32_at-both.false (c.u32_at.ensures ∙ e)))

pub returns : goal.returns
returns c = λ from leads. along_none leads (c.loop-next.invariant from leads) c.loop-next-test.false
