-- The code is the definition: a mask of ones is the remainder.
use Prim.Native.Nat.{◌/◌}
use lib.Bits.{and_mask}
use Rattle.steps.specs.Packing.{unpacked}
use Rattle.steps.proofs.keys.unpack.Goals as goal

pub returns : goal.returns
unfolding unpacked
returns c = let key = c.args.key in rw (and_mask (key / 2) 10, and_mask key 1)
