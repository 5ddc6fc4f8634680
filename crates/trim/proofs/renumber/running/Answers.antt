use Rattle.std.proofs.Common.{◌∙◌, arith}
use Rattle.trim.proofs.Running.{has_both, from_bool_is, running_first, running_few, one_more, running_next, running_stop}
use Rattle.trim.proofs.renumber.running.Goals as goal

pub loop-s-init : goal.loop-s-init
loop-s-init c = running_first (has_both c.args.accessible c.args.coaccessible)

pub overflow_add-next : goal.overflow_add-next
unfolding has_both
overflow_add-next c =
    let one = one_more (has_both c.args.accessible c.args.coaccessible) c.loop-s.s c.from-next.result (c.from-next.ensures ∙ from_bool_is _) in
    omega (arith, running_few c.loop-s.invariant, one)

pub loop-s-preserved : goal.loop-s-preserved
unfolding has_both
loop-s-preserved c = running_next c.from-next.result (omega arith) (c.from-next.ensures ∙ from_bool_is _) c.loop-s.invariant

pub returns : goal.returns
unfolding has_both
returns c = λ t e same. running_stop t (omega arith) (λ s l. same s (omega arith)) c.loop-s.invariant
