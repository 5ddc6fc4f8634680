use mathlib.Core.Path.{refl}
use native.Mathlib.Omega.{arith}
use Rattle.transducer.specs.Format.{max_states}
use Rattle.relaxation.specs.Queue.{cell}
use Rattle.relaxation.proofs.Waiting.{queue_empty, pop_state, pop_waits, queue_pop}
use Rattle.relaxation.proofs.queue.StateQueue.pop.Goals as goal

pub returns-then-self-eq0-clause-empty : goal.returns-then-self-eq0-clause-empty
returns-then-self-eq0-clause-empty c = λ _. queue_empty c.args.self.now.lined (omega (arith, c.if-self-eq0.true))

pub bounds-self-s : goal.bounds-self-s
bounds-self-s c = pop_state {n = max_states} (omega arith) c.args.self.now.lined (omega (arith, c.if-self-eq0.false))

pub invariant_of-self : goal.invariant_of-self
unfolding cell
invariant_of-self c = record { lined = queue_pop {n = max_states} (omega arith) c.args.self.now.lined (omega (arith, c.if-self-eq0.false)) }

pub returns-clause-taken : goal.returns-clause-taken
unfolding cell
returns-clause-taken c =
    let some = c.if-self-eq0.false in
    (refl, pop_waits {n = max_states} (omega arith) c.args.self.now.lined (omega (arith, some)), refl, refl, refl, omega (arith, some))
