-- What a code is above 1, the weight is above the least one.
use Rattle.std.proofs.Common.{◌-◌, ◌^◌, ◌<◌, refl, arith, to_z-of_z, w32}
use mir.Facts.{to_z_pos}
use Rattle.transducer.specs.Weight.{weight_of}
use Rattle.transducer.proofs.Weights.{weight_of_fits, weight_of_good}
use Rattle.transducer.proofs.accepted.weight_of.Goals as goal

pub returns : goal.returns
unfolding weight_of
returns c =
    let below : c.args.code - 1 < 2 ^ 31 = omega (arith, c.requires.1) in
    rw (to_z_pos w32 below, to_z-of_z (weight_of_fits c.args.code c.requires.1))
    (refl, weight_of_good c.args.code c.requires.0 c.requires.1)
