-- A weight and a cost that is kept make a sum of 32 bits, since a weight is small (`good_range`).
use native.Mathlib.Omega.{arith}
use mir.Facts.{to_z-of_z}
use Rattle.std.proofs.lemmas.Int.{ints}
use Rattle.transducer.proofs.Weights.{good_range}
use Rattle.relax.specs.Tentative.{onward}
use Rattle.relax.proofs.sizes.sum.Goals as goal

pub overflow_add-result : goal.overflow_add-result
overflow_add-result c = let r = good_range c.args.weight c.requires.0 in grind (arith, ints, to_z-of_z)

pub returns-then-cost-lt-UNREACHED : goal.returns-then-cost-lt-UNREACHED
unfolding onward
returns-then-cost-lt-UNREACHED c = let r = good_range c.args.weight c.requires.0 in grind (arith, ints, to_z-of_z)
