-- Worked rows: the least and the greatest weight pass, and one beyond either does not. Definition and code that are misread alike are refused here.
-- Assumes nothing.
use mathlib.Core.Path.{◌≡◌, refl}
use mathlib.Core.Bool.{true, false}
use lib.IntN.{pos, negsuc}
use Rattle.bounds.specs.Bounds.{weight_good}

-- `negsuc n` is -(n + 1).
pub record WeightRows : Type 0 where
  pub least : weight_good (negsuc 999999) ≡ true
  pub below : weight_good (negsuc 1000000) ≡ false
  pub greatest : weight_good (pos 1000000) ≡ true
  pub above : weight_good (pos 1000001) ≡ false

pub weight_rows : WeightRows
unfolding weight_good
weight_rows = record { least = refl; below = refl; greatest = refl; above = refl }
