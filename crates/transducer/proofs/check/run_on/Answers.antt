use Rattle.wire.proofs.Low.{are_bytes}
use Rattle.transducer.proofs.FastCheck.{running_next, rebate_good}
use Rattle.transducer.proofs.check.run_on.Goals as goal

pub loop-run-preserved : goal.loop-run-preserved
loop-run-preserved c =
    rw c.fields_at-fields.ensures
    (running_next c.loop-run.invariant c.loop-run-test.true c.in-Some.source (are_bytes _ c.type_inv.bytes) (rebate_good c.args.below c.requires.2)
    c.in-Some.ensures)
