-- What the parts of trimming answer. Assumes nothing: these are definitions.
use Rattle.std.specs.Prelude.{◌≡◌, List, ℕ, ◌+◌, ◌≤◌, length, get_or}
use Rattle.wire.specs.Bytes.{filled}
use Rattle.transducer.specs.Format.{Transducer, max_states}
use Rattle.transducer.specs.Encode.{encode}
use Rattle.trim.specs.Trim.{renumbered, trimmed, origins_kept}

-- The new numbers of the states, and behind them that of their end.
pub record Renumbered (t : Transducer) (index : List ℕ) : Type 0 where
  pub long : length index ≡ max_states + 1
  pub at_state : (s : ℕ) → s ≤ t.states → get_or index s 0 ≡ renumbered t s

-- The trimmed transducer, written, and the arcs it keeps.
pub record Trims (t : Transducer) (len : ℕ) (out out' origins origins' : List ℕ) : Type 0 where
  pub len_is : len ≡ length (encode (trimmed t))
  pub table : out' ≡ filled (length out) (encode (trimmed t))
  pub origins_are : origins' ≡ filled (length origins) (origins_kept t)
