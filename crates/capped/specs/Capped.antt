-- The sum of two counts of paths. Assumes nothing: these are definitions.
use Rattle.std.specs.Prelude.{ℕ, ◌+◌, min}
use Rattle.transducer.specs.Format.{max_count}

-- 99 stands for 99 or more.
unfoldable pub add : (a b : ℕ) → ℕ
add a b = min max_count (a + b)
