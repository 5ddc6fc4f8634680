-- Marks by state. Assumes nothing: these are definitions.
use Rattle.std.specs.Prelude.{◌≡◌, Bool, false, ◌||◌, not, List, ℕ, ◌<◌, length, get_or}

unfoldable pub marked : List Bool → (s : ℕ) → Bool
marked ms s = get_or ms s false

-- Of the first n states those that are not live are marked too.
pub record WithDead (n : ℕ) (live ms ms' : List Bool) : Type 0 where
  pub long : length ms' ≡ length ms
  pub at_state : (s : ℕ) → s < n → marked ms' s ≡ marked ms s || not (marked live s)
