-- What is written. Assumes nothing: these are definitions.
use Rattle.std.specs.Prelude.{◌≡◌, List, ◌++◌, map, ℕ, ◌+◌, ◌*◌, length, take, drop}
use Rattle.transducer.specs.Format.{Transducer, arc_bytes, arcs_at}
use Rattle.transducer.specs.Encode.{arc_records, encode}
use Rattle.transducer.specs.Path.{arc}
use Rattle.derived.specs.Reversed.{reversed_arc}

-- A transducer's bytes stand at the front of a buffer; what is behind them is not said.
pub record Puts (t : Transducer) (len : ℕ) (out : List ℕ) : Type 0 where
  pub len_is : len ≡ length (encode t)
  pub table : take len out ≡ encode t

-- The place of an arc's record behind the head and one final.
abbrev pub record_at : (place : ℕ) → ℕ
record_at k = arcs_at 1 + arc_bytes * k

-- The arcs of these numbers stand reversed from record r to right before record `place`, and what is behind that is as it was.
pub record ReversedBefore (t : Transducer) (numbers : List ℕ) (place r : ℕ) (out out' : List ℕ) : Type 0 where
  pub place_is : r + length numbers ≡ place
  pub long : length out' ≡ length out
  pub written : drop (record_at r) out' ≡ arc_records (map (λ i. reversed_arc (arc t i)) numbers) ++ drop (record_at place) out
