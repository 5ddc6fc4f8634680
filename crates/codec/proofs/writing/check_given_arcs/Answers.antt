-- By the laws of `Left`, whose fold takes an arc a turn.
use mathlib.Core.Path.{refl}
use Rattle.transducer.specs.Check.{arcs_checked}
use Rattle.transducer.proofs.Checked.{left_first, left_next, left_stop}
use Rattle.codec.proofs.writing.check_given_arcs.Goals as goal

pub loop-i-init : goal.loop-i-init
loop-i-init c = left_first

pub loop-i-preserved : goal.loop-i-preserved
unfolding arcs_checked
loop-i-preserved c =
    rw (c.check_arc-checks.ensures, c.given_arc-a.ensures) (left_next (λ k p d. refl) c.loop-i.invariant c.loop-i-test.true)

pub returns : goal.returns
unfolding arcs_checked
returns c = left_stop (λ p d. refl) c.loop-i.invariant c.loop-i-test.false
