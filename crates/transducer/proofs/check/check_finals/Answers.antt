use Rattle.std.proofs.Common.{◌≡◌, ◌+◌, ◌*◌, refl, arith}
use Rattle.transducer.specs.Check.{finals_checked}
use Rattle.transducer.proofs.Checked.{left_first, left_next, left_stop}
use Rattle.transducer.proofs.check.check_finals.Goals as goal

pub loop-i-init : goal.loop-i-init
loop-i-init c = let none : c.args.at + 10 * 0 ≡ c.args.at = omega arith in rw none left_first

pub loop-i-preserved : goal.loop-i-preserved
unfolding finals_checked
loop-i-preserved c =
    let next : c.args.at + 10 * (c.loop-i.i + 1) ≡ c.args.at + 10 * c.loop-i.i + 10 = omega arith in
    rw (next, c.check_final-checks.ensures, c.load_final.ensures, c.u32_at.ensures) (left_next (λ k p d. refl) c.loop-i.invariant c.loop-i-test.true)

pub returns : goal.returns
unfolding finals_checked
returns c = left_stop (λ p d. refl) c.loop-i.invariant c.loop-i-test.false
