-- The arcs that a state has for a label, by look-up: chains of arcs by bucket, in arc order. A link is the number of an arc and one more,
-- 0 for none. Assumes nothing: these are definitions.
use Rattle.std.specs.Prelude.{◌≡◌, Bool, ◌&&◌, cond, List, ℕ, zero, suc, ◌+◌, ◌*◌, ◌-◌, ◌%◌, ◌≤◌, ◌<◌, eqb, length, get_or}
use Rattle.transducer.specs.Format.{Transducer}
use Rattle.transducer.specs.Path.{arc}

-- How many buckets there are, and the bucket of a state and a label.
abbrev pub label_buckets : ℕ
label_buckets = 2048

unfoldable pub label_bucket : (state label : ℕ) → ℕ
label_bucket q label = (q * 61 + label) % label_buckets

-- Whether arc j leaves state q and reads a label; whether it is in a bucket.
unfoldable pub reads : Transducer → (q label j : ℕ) → Bool
reads u q label j = eqb (arc u j).source q && eqb (arc u j).input label

unfoldable pub in_bucket : Transducer → (b j : ℕ) → Bool
in_bucket u b j = eqb (label_bucket (arc u j).source (arc u j).input) b

-- The link to the first of `count` places, from j on, that passes a test; and to the first arc from j on.
unfoldable pub first_of : (test : ℕ → Bool) → (count j : ℕ) → ℕ
first_of test zero j = 0
first_of test (suc count) j = cond (test j) (suc j) (first_of test count (suc j))

abbrev pub first_from : Transducer → (test : ℕ → Bool) → (j : ℕ) → ℕ
first_from u test j = first_of test (length u.arcs - j) j

-- Of the arcs from `from` on, heads lead to the first of each bucket, the chain leads from each to the next of its bucket, and `again` to the
-- next that leaves the same state and reads the same label.
pub record Heads (u : Transducer) (from : ℕ) (heads : List ℕ) : Type 0 where
  pub long : length heads ≡ label_buckets
  pub are : (b : ℕ) → b < label_buckets → get_or heads b 0 ≡ first_from u (in_bucket u b) from

pub record Chain (u : Transducer) (from : ℕ) (chain : List ℕ) : Type 0 where
  pub long : length u.arcs ≤ length chain
  pub are : (j : ℕ) → from ≤ j → j < length u.arcs
      → get_or chain j 0 ≡ first_from u (in_bucket u (label_bucket (arc u j).source (arc u j).input)) (suc j)

pub record NextSameLabel (u : Transducer) (from : ℕ) (again : List ℕ) : Type 0 where
  pub long : length u.arcs ≤ length again
  pub are : (j : ℕ) → from ≤ j → j < length u.arcs → get_or again j 0 ≡ first_from u (reads u (arc u j).source (arc u j).input) (suc j)

-- All arcs are in the chains.
pub record Lookup (u : Transducer) (heads chain again : List ℕ) : Type 0 where
  pub headed : Heads u 0 heads
  pub chained : Chain u 0 chain
  pub repeated : NextSameLabel u 0 again

-- A head leads to the chain, from `from` on, of the bucket of a state and a label.
pub record Leads (u : Transducer) (q label from : ℕ) (chain : List ℕ) (head : ℕ) : Type 0 where
  pub within : from ≤ length u.arcs
  pub chained : Chain u from chain
  pub head_is : head ≡ first_from u (in_bucket u (label_bucket q label)) from
