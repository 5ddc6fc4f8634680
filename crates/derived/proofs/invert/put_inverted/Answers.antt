use Rattle.transducer.specs.Path.{arc}
use Rattle.derived.proofs.InvertedWritten.{inverting_first, inverting_next}
use Rattle.derived.proofs.invert.put_inverted.Goals as goal
use Rattle.std.proofs.Common.{arith}

pub loop-i-init : goal.loop-i-init
loop-i-init c = inverting_first _ _ c.args.out.now

pub loop-i-preserved : goal.loop-i-preserved
unfolding arc
loop-i-preserved c =
    inverting_next _ c.args.first c.loop-i.i c.args.out.now c.loop-i.out _ c.arc_of-a.result c.inverted_arc.result (omega arith) c.arc_of-a.ensures
    c.inverted_arc.ensures c.put_arc.auto.out c.put_arc.ensures c.loop-i.invariant
