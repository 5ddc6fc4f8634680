use mathlib.Core.Path.{refl}
use native.Mathlib.Omega.{arith}
use Rattle.transducer.specs.Format.{decode}
use Rattle.relaxation.proofs.Draining.{inside_none, ordered_first, ordered_next, ordered_stop, draining_joined, drains}
use Rattle.relaxation.proofs.worklist.relax_all.Goals as goal

pub loop-i-init : goal.loop-i-init
loop-i-init c = ordered_first c.requires.4 c.requires.3 (inside_none (decode c.args.table.now) c.requires.5)

pub loop-i-preserved : goal.loop-i-preserved
loop-i-preserved c =
    let r = c.relax_and_join.ensures.says in
    draining_joined c.loop-i.invariant c.loop-i.i r.cells r.nearing (r.joined (rw c.in_ok-relax_and_join.was refl)) (λ x _. ordered_next c.loop-i.i x)

pub returns-clause-says : goal.returns-clause-says
returns-clause-says c = drains (ordered_stop c.loop-i.invariant (omega (arith, c.loop-i-test.false, c.requires.2))) (omega arith)
