-- A good weight is at least the least one, so what it is above it is no negative number.
use Rattle.std.proofs.Common.{◌+◌, ◌≤◌, ◌-ℤ◌, nat_abs, refl, arith, to_z-of_z}
use Rattle.transducer.specs.Format.{min_weight}
use Rattle.transducer.specs.Accepted.{max_code}
use Rattle.transducer.specs.Weight.{code_of}
use Rattle.transducer.proofs.Weights.{good_range, above_least, above_fits, code_most}
use Rattle.transducer.proofs.accepted.code_of.Goals as goal

small : (c : goal.Start) → nat_abs (c.args.weight -ℤ min_weight) + 1 ≤ max_code
unfolding code_of
small c = code_most c.args.weight c.requires

pub overflow_sub-result : goal.overflow_sub-result
overflow_sub-result c = rw (to_z-of_z c.ranges.weight) (above_fits c.args.weight c.requires)

pub overflow_cast-result : goal.overflow_cast-result
overflow_cast-result c =
    let w = c.args.weight in
    rw (to_z-of_z c.ranges.weight, to_z-of_z (above_fits w c.requires))
    (rw (above_least w (good_range w c.requires).low) tt, record { fits = omega (arith, small c) })

pub returns : goal.returns
unfolding code_of
returns c = rw (to_z-of_z c.ranges.weight, to_z-of_z (above_fits c.args.weight c.requires)) (refl, small c)
