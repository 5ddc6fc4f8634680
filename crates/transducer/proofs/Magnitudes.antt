-- What code works the magnitude of a weight or a cost out from: the number itself from nothing on; below it, -1 less the number, and one more.
-- Assumes nothing.
use Rattle.std.proofs.Common.{◌≡◌, ◌+◌, ◌^◌, ◌≤◌, true, false, T, pos, negsuc, ◌-ℤ◌, arith, w32, w64, SFits}
use lib.Signed.{non_neg}
use mir.Syntax.{Width}
use Rattle.wire.proofs.Ints.{sums, difference, size}
use Rattle.transducer.specs.Weight.{Weight, no_weight, at_most, magnitude}
use Rattle.transducer.proofs.Weights.{magnitude_is}

pub above_nothing : (c : Weight) → at_most no_weight c ≡ true → T (non_neg c)
above_nothing c e = on c e
  where
    on : (c : Weight) → at_most no_weight c ≡ true → T (non_neg c)
    on (pos n) h = tt
    on (negsuc n) h = absurd (omega (arith, sums))

-- The magnitude of what fits.
pub magnitude_32 : (c : Weight) → SFits w32 c → magnitude c ≤ 2 ^ 31
magnitude_32 c fits = omega (arith, magnitude_is c, size c, fits.sfits)

pub magnitude_64 : (c : Weight) → SFits w64 c → magnitude c ≤ 2 ^ 63
magnitude_64 c fits = omega (arith, magnitude_is c, size c, fits.sfits)

-- -1 less a number.
abbrev pub flipped : Weight → Weight
flipped c = negsuc 0 -ℤ c

module _ (c : Weight) (below : at_most no_weight c ≡ false) where
  pub flipped_above : T (non_neg (flipped c))
  flipped_above = above_nothing (flipped c) (omega (arith, sums, difference (negsuc 0) c))

  pub flipped_is : magnitude (flipped c) + 1 ≡ magnitude c
  flipped_is = omega (arith, sums, difference (negsuc 0) c, magnitude_is c, magnitude_is (flipped c), size (flipped c), size c)

  pub flipped_fits : {w : Width} → SFits w c → SFits w (flipped c)
  flipped_fits fits = record { sfits = omega (arith, sums, difference (negsuc 0) c, size (flipped c), size c, fits.sfits) }
