use mathlib.Core.Path.{refl}
use native.Mathlib.Omega.{arith}
use Rattle.transducer.specs.Format.{max_states}
use Rattle.relaxation.specs.Queue.{cell}
use Rattle.relaxation.proofs.Waiting.{queue_few, queue_push}
use Rattle.relaxation.proofs.queue.StateQueue.push.Goals as goal

pub overflow_add-self : goal.overflow_add-self
overflow_add-self c = let q = c.args.self.now.lined in omega (arith, q.head_below, queue_few q)

pub overflow_add-self-2 : goal.overflow_add-self-2
overflow_add-self-2 c = omega (arith, queue_few c.args.self.now.lined)

pub invariant_of-self : goal.invariant_of-self
unfolding cell
invariant_of-self c = record { lined = queue_push {n = max_states} (omega arith) c.args.self.now.lined c.args.s c.requires.0 c.requires.1 }

pub returns : goal.returns
unfolding cell
returns c = (refl, refl, refl, refl)
