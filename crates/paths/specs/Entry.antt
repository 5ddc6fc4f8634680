-- What the path count and the k-th path answer and leave behind. Assumes nothing: these are definitions.
use Rattle.std.specs.Prelude.{◌≡◌, ◌||◌, cond, List, ℕ, ltb, leb}
use Rattle.transducer.specs.Format.{Transducer, max_path, refusal, decode}
use Rattle.transducer.specs.Entry.{or_else, unless}
use Rattle.paths.specs.Answer.{Counted}
use Rattle.report.specs.Answer.{Told}
use Rattle.report.specs.Tell.{PathTold}
use Rattle.paths.specs.Count.{endless, path_count, nth_path}

-- What counting refuses of accepted bytes: 14 if accepting paths are infinitely many.
abbrev pub accepted_count_refusal : Transducer → ℕ
accepted_count_refusal t = cond (endless t) 14 0

-- The path count: 1 to 8, then 14.
unfoldable pub count_refusal : List ℕ → ℕ
count_refusal bs = or_else (refusal bs) (accepted_count_refusal (decode bs))

pub record CountSays (bs : List ℕ) (number : ℕ) (r : Counted) : Type 0 where
  pub refusal_is : r.refusal ≡ number
  pub count_is : r.count ≡ unless number (path_count (decode bs))

-- What the k-th path refuses of accepted bytes: 14, then 15 if k is not below the count.
abbrev pub accepted_nth_refusal : Transducer → (k : ℕ) → ℕ
accepted_nth_refusal t k = cond (endless t) 14 (cond (leb (path_count t) k) 15 0)

-- The k-th path: 1 to 8, 10 for a buffer that is too short, 14, then 15.
unfoldable pub nth_refusal : List ℕ → (k arcs labels : ℕ) → ℕ
nth_refusal bs k a b = or_else (refusal bs) (cond (ltb a max_path || ltb b max_path) 10 (accepted_nth_refusal (decode bs) k))

-- The path told, or a refusal.
abbrev pub NthSays : (bs : List ℕ) → (k number : ℕ) → Told → (a a' b b' : List ℕ) → Type 0
NthSays bs k number r a a' b b' = PathTold (decode bs) (nth_path (decode bs) k) number r a a' b b'
