-- In a turn there is a left arc of this number, and its record lies within the bytes.
use mathlib.Core.Path.{◌≡◌, sym, ◌∙◌}
use Prim.Native.Nat.{◌+◌, ◌*◌, ◌≤◌}
use native.Mathlib.Omega.{arith}
use lib.ListN.{length}
use Rattle.wire.specs.Bytes.{Bytes}
use Rattle.transducer.specs.Format.{decode}
use Rattle.transducer.specs.Path.{arc}
use Rattle.transducer.proofs.AcceptedAt.{opened_inside, output_in_place}
use Rattle.steps.proofs.RunCode.{seeking_other}
use Rattle.steps.proofs.runs.pass_over.Goals as goal

inside : (c : goal.In-loop-k) → c.args.lfirst + 16 * (c.loop-k.k + 1) ≤ length c.args.left.now
inside c =
    opened_inside c.args.left.now (λ i. omega (arith, c.type_inv.left i)) c.args.lfirst c.requires.0 (c.loop-k.k + 1)
    (omega (arith, c.loop-k-test.true, c.requires.2))

pub overflow_mul-k : goal.overflow_mul-k
overflow_mul-k c = omega (arith, inside c)

pub overflow_add-lfirst : goal.overflow_add-lfirst
overflow_add-lfirst c = omega (arith, inside c)

pub overflow_add-lfirst-in-loop-k : goal.overflow_add-lfirst-in-loop-k
overflow_add-lfirst-in-loop-k c = omega (arith, inside c)

pub u16_at-label-requires : goal.u16_at-label-requires
u16_at-label-requires c = omega (arith, inside c)

pub loop-k-preserved : goal.loop-k-preserved
loop-k-preserved c =
    let a = c.args in
    let bytes : Bytes a.left.now = λ i. omega (arith, c.type_inv.left i) in
    let label : (arc (decode a.left.now) c.loop-k.k).output ≡ c.u16_at-label.result =
    output_in_place a.left.now bytes a.lfirst c.requires.0 c.loop-k.k (omega (arith, c.loop-k-test.true, c.requires.2)) ∙ sym c.u16_at-label.ensures in
    record {
      within = omega (arith, c.loop-k-test.true);
      same = λ u filter from to o fit.
          seeking_other c.loop-k-test.true (omega (arith, c.if-only-ge-SEVERAL.false)) (λ e. c.if-label-eq0.false (sym label ∙ e))
          (λ e. c.if-label-only.false (sym label ∙ e)) o fit (c.loop-k.invariant.same u filter from to o fit);
    }
