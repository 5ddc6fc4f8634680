-- The code computes what the definition says: a mask of ones is the remainder.
use Prim.Native.Nat.{◌+◌, ◌*◌}
use lib.Bits.{and_mask, mask_lt}
use Rattle.steps.specs.Lookup.{label_bucket}
use Rattle.steps.proofs.lookup.label_bucket.Goals as goal

pub returns : goal.returns
unfolding label_bucket
returns c = let sum = c.args.state * 61 + c.args.label in (and_mask sum 11, mask_lt sum 11)
