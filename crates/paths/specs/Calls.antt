-- Calls of `path_count` and `nth_path` on some bytes, answered as their contracts say; any of them may be refused. Assumes nothing: these are definitions.
use Rattle.std.specs.Prelude.{List, ℕ, ◌≤◌, ◌<◌, length, take}
use Rattle.transducer.specs.Format.{max_path}
use Rattle.report.specs.Answer.{Told}
use Rattle.paths.specs.Answer.{Counted}
use Rattle.paths.specs.Entry.{count_refusal, CountSays, nth_refusal, NthSays}

-- The path count.
pub record Counting (bytes : List ℕ) : Type 0 where
  pub answer : Counted
  pub says : CountSays bytes (count_refusal bytes) answer

-- The k-th path (paper 01: reading k) was asked for, for each k below a count, with at least 1,023 cells lent for the arcs and for the labels. What each
-- call was lent stands beside the same as it was left behind (`-left`).
pub record Telling (bytes : List ℕ) (count : ℕ) : Type 0 where
  pub answer : (k : ℕ) → Told
  pub arcs : (k : ℕ) → List ℕ
  pub arcs_left : (k : ℕ) → List ℕ
  pub labels : (k : ℕ) → List ℕ
  pub labels_left : (k : ℕ) → List ℕ
  pub says : (k : ℕ) → k < count
      → NthSays bytes k (nth_refusal bytes k (length (arcs k)) (length (labels k))) (answer k) (arcs k) (arcs_left k) (labels k) (labels_left k)
  pub arcs_room : (k : ℕ) → k < count → max_path ≤ length (arcs k)
  pub labels_room : (k : ℕ) → k < count → max_path ≤ length (labels k)

-- The k-th path as told: the arcs in their buffer as left behind, at the length told, and the labels likewise.
abbrev pub told_arcs : {bytes : List ℕ} {count : ℕ} → Telling bytes count → (k : ℕ) → List ℕ
told_arcs t k = take (t.answer k).arcs (t.arcs_left k)

abbrev pub told_labels : {bytes : List ℕ} {count : ℕ} → Telling bytes count → (k : ℕ) → List ℕ
told_labels t k = take (t.answer k).labels (t.labels_left k)
