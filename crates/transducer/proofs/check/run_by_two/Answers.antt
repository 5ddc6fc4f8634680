-- A turn goes on by two arcs.
use Rattle.std.proofs.Common.{arith}
use Rattle.wire.proofs.Low.{are_bytes}
use Rattle.transducer.proofs.FastCheck.{running_next, rebate_good}
use Rattle.transducer.proofs.check.run_by_two.Goals as goal

pub loop-run-preserved : goal.loop-run-preserved
loop-run-preserved c =
    let bytes = are_bytes c.args.bytes.now c.type_inv.bytes in
    let low = rebate_good c.args.below c.requires.2 in
    rw (c.fields_at-fields.ensures, c.fields_at-others.ensures)
    (running_next (running_next c.loop-run.invariant (omega arith) c.in-Some.between bytes low c.in-Some.ensures) (omega arith) c.in-Some-passing.source bytes
    low c.in-Some-passing.ensures)
