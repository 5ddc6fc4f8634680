-- Acceptance bounds the arc's number.
use native.Mathlib.Omega.{arith}
use Rattle.transducer.proofs.AcceptedAt.{opened_few}
use Rattle.steps.proofs.runs.run_of.Goals as goal

pub overflow_cast-result : goal.overflow_cast-result
overflow_cast-result c =
    let few = opened_few c.args.left.now (λ i. omega (arith, c.type_inv.left i)) c.args.lfirst c.requires.0 in
    omega arith

pub overflow_cast-result-2 : goal.overflow_cast-result-2
overflow_cast-result-2 c =
    let few = opened_few c.args.left.now (λ i. omega (arith, c.type_inv.left i)) c.args.lfirst c.requires.0 in
    omega arith
