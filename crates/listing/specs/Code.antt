-- A code's bytes as labels (paper 01: code.lab). Assumes nothing: these are definitions.
use Rattle.std.specs.Prelude.{◌≡◌, List, ℕ, ◌+◌, ◌/◌, min, length, take}
use Rattle.wire.specs.Bytes.{two, places}
use Rattle.transducer.specs.Format.{max_symbols}

-- The labels in bytes, two bytes each; an odd last byte is passed over.
unfoldable pub labels_in : List ℕ → List ℕ
labels_in bs = places (length bs / 2) 0 2 (two bs)

-- One label more than a code may have is enough to tell that it has too many.
abbrev pub most_loaded : ℕ
most_loaded = max_symbols + 1

pub record Loaded (bs : List ℕ) (count : ℕ) (string : List ℕ) : Type 0 where
  pub long : length string ≡ most_loaded
  pub many : count ≡ min most_loaded (length bs / 2)
  pub labels : take count string ≡ take most_loaded (labels_in bs)
