-- What an answer of the shortest path says of the accepting paths (paper 02, Point 8). Assumes nothing: these are definitions.
use Rattle.std.specs.Prelude.{◌≡◌, true, false, ◌↔◌, List, ℕ, ◌≤◌, ◌<◌, length, take}
use Rattle.wire.specs.Bytes.{Bytes}
use Rattle.transducer.specs.Format.{max_path, Transducer, refusal}
use Rattle.transducer.specs.Path.{accepts, written_by, path_cost}
use Rattle.transducer.specs.Weight.{Weight, AtMost, Below}
use Rattle.report.specs.Answer.{Told}
use Rattle.cycles.specs.Cycles.{NegativeCycleFrom}
use Rattle.shortest.specs.Shortest.{better}
use Rattle.shortest.specs.Entry.{shortest_refusal, ShortestSays}

-- A call of `shortest_path` on some bytes, answered as its contract says, with at least 1,023 cells lent for the arcs and for the labels; it may be
-- refused. What it was lent stands beside the same as it was left behind (`-left`).
pub record ShortestPath (bytes : List ℕ) : Type 0 where
  pub answer : Told
  pub arcs : List ℕ
  pub arcs_left : List ℕ
  pub labels : List ℕ
  pub labels_left : List ℕ
  pub says : ShortestSays bytes (shortest_refusal bytes (length arcs) (length labels)) answer arcs arcs_left labels labels_left
  pub arcs_room : max_path ≤ length arcs
  pub labels_room : max_path ≤ length labels

-- A call on a table that is not refused, lent at least 1,023 cells for the arcs and for the labels, answered as its contract says. That the table is bytes
-- holds of slices of bytes.
pub record Answered (table : List ℕ) (r : Told) (arcs arcs_left labels labels_left : List ℕ) : Type 0 where
  pub bytes : Bytes table
  pub accepted : refusal table ≡ 0
  pub arcs_room : max_path ≤ length arcs
  pub labels_room : max_path ≤ length labels
  pub says : ShortestSays table (shortest_refusal table (length arcs) (length labels)) r arcs arcs_left labels labels_left

-- There is no least cost: below any weight there is an accepting path.
abbrev pub NoLeastCost : Transducer → Type 0
NoLeastCost t = (w : Weight) → (p : List ℕ) × (accepts t p ≡ true) × Below (path_cost t p) w

-- The best of all accepting paths, however long: none costs less, none comes before it in the order of ties, and it has fewer arcs than there are states.
pub record BestOfAll (t : Transducer) (p : List ℕ) : Type 0 where
  pub accepting : accepts t p ≡ true
  pub least : (q : List ℕ) → accepts t q ≡ true → AtMost (path_cost t p) (path_cost t q)
  pub best : (q : List ℕ) → accepts t q ≡ true → better t q p ≡ false
  pub few : length p < t.states

-- A path told: its arcs and the labels that it writes at the front of the buffers as they were left behind, and its cost.
pub record TellsPath (t : Transducer) (path : List ℕ) (r : Told) (arcs_left labels_left : List ℕ) : Type 0 where
  pub arcs : take r.arcs arcs_left ≡ path
  pub labels : take r.labels labels_left ≡ written_by t path
  pub cost : r.cost ≡ path_cost t path

-- 16 exactly where nothing accepts; 19 exactly where a cycle below zero lies on an accepting path, and that is where there is no least cost; otherwise
-- the best of all paths is told.
pub record ShortestClaim (t : Transducer) (r : Told) (arcs_left labels_left : List ℕ) : Type 0 where
  pub none : (r.refusal ≡ 16) ↔ ((p : List ℕ) → accepts t p ≡ false)
  pub falls : (r.refusal ≡ 19) ↔ NegativeCycleFrom t t.start
  pub bottomless : (r.refusal ≡ 19) ↔ NoLeastCost t
  pub told : (r.refusal ≡ 16 → ⊥) → (r.refusal ≡ 19 → ⊥)
      → (r.refusal ≡ 0) × (p : List ℕ) × BestOfAll t p × TellsPath t p r arcs_left labels_left
