-- The result is `bucket_of` written out: a mask of ones is the remainder.
use Prim.Native.Nat.{◌*◌, ◌/◌}
use lib.Bits.{and_mask, mask_lt}
use Rattle.explore.specs.Chain.{bucket_of}
use Rattle.explore.proofs.bucket.Goals as goal

pub returns : goal.returns
unfolding bucket_of
returns c = let high = c.args.key * 2654435761 / 2097152 in (and_mask high 11, mask_lt high 11)
