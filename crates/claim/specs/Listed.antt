-- The k-th path for each k below the count, where accepting paths stand for things of a kind. Assumes nothing: these are definitions.
use Rattle.std.specs.Prelude.{◌≡◌, true, List, ℕ, ◌<◌}
use Rattle.transducer.specs.Format.{max_count, decode}
use Rattle.transducer.specs.Path.{accepts}
use Rattle.paths.specs.Answer.{Counted}
use Rattle.paths.specs.Count.{before}
use Rattle.paths.specs.Calls.{Telling, told_arcs, told_labels}
use Rattle.claim.specs.Kind.{Kind}

-- The k-th call tells a thing with its output and its cost, by an accepting path.
pub record Tells (K : Kind) {bytes : List ℕ} {count : ℕ} (t : Telling bytes count) (k : ℕ) (x : K.Thing) : Type 0 where
  pub well : (t.answer k).refusal ≡ 0
  pub accepting : accepts (decode bytes) (told_arcs t k) ≡ true
  pub is : K.Is x
  pub output : told_labels t k ≡ K.output x
  pub cost : (t.answer k).cost ≡ K.cost x

-- Each k below the count tells the thing that its path leads to, no two the same one, in path order; below 99 every thing of the kind is told.
pub record Lists (K : Kind) (bytes : List ℕ) (to : List ℕ → K.Thing) (r : Counted) (t : Telling bytes r.count) : Type 0 where
  pub tells : (k : ℕ) → k < r.count → Tells K t k (to (told_arcs t k))
  pub told_once : (j k : ℕ) → j < r.count → k < r.count → to (told_arcs t j) ≡ to (told_arcs t k) → j ≡ k
  pub in_order : (j k : ℕ) → j < k → k < r.count → before (told_arcs t j) (told_arcs t k) ≡ true
  pub all_told : r.refusal ≡ 0 → r.count < max_count → (x : K.Thing) → K.Is x → (k : ℕ) × (k < r.count) × (to (told_arcs t k) ≡ x)
