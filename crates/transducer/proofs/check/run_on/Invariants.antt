-- Whatever was known of the arcs before goes on to where the run is.
use Rattle.std.proofs.Common.{◌-◌}
use Rattle.transducer.specs.Weight.{rebate}
use Rattle.transducer.proofs.FastCheck.{RunSeen}
use Rattle.transducer.proofs.check.run_on.Given as goal

abbrev pub invariant-loop-run : goal.invariant-loop-run
invariant-loop-run l =
    RunSeen l.fn.bytes l.fn.before.place l.fn.end l.fn.n l.fn.each l.fn.before.last l.fn.before.any l.fn.before.all (rebate l.fn.below) l.run.last l.run.any
    l.run.all l.run.place

abbrev pub decreases-loop-run : goal.decreases-loop-run
decreases-loop-run l = l.fn.end - l.run.place
