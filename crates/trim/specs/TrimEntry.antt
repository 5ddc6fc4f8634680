-- What trimming answers and leaves behind. Assumes nothing: these are definitions.
use Rattle.std.specs.Prelude.{◌≡◌, ◌||◌, cond, List, ℕ, ltb, length}
use Rattle.transducer.specs.Answer.{Written}
use Rattle.transducer.specs.Format.{max_arcs, max_bytes, refusal, decode}
use Rattle.transducer.specs.Encode.{encode}
use Rattle.transducer.specs.Entry.{or_else, unless, left_in}
use Rattle.trim.specs.Trim.{trimmed, origins_kept}

-- 1 to 8, then 10 for a buffer that is too short.
unfoldable pub trim_room : (table origins : ℕ) → ℕ
trim_room a b = cond (ltb a max_bytes || ltb b max_arcs) 10 0

unfoldable pub trim_refusal : List ℕ → (table origins : ℕ) → ℕ
trim_refusal bs a b = or_else (refusal bs) (trim_room a b)

-- The trimmed transducer, and one origin for each of its arcs: the number of the arc that it was.
pub record TrimSays (bs : List ℕ) (number : ℕ) (r : Written) (out out' origins origins' : List ℕ) : Type 0 where
  pub refusal_is : r.refusal ≡ number
  pub len_is : r.len ≡ unless number (length (encode (trimmed (decode bs))))
  pub table : out' ≡ left_in number out (encode (trimmed (decode bs)))
  pub origins_are : origins' ≡ left_in number origins (origins_kept (decode bs))
