-- What is told of a path: its cost, its arcs and the labels that it writes. Assumes nothing: these are definitions.
use Rattle.std.specs.Prelude.{◌≡◌, List, [], ℕ, ◌≤◌, ◌<◌, length}
use Rattle.wire.specs.Bytes.{filled}
use Rattle.transducer.specs.Format.{max_states, max_path, Transducer}
use Rattle.transducer.specs.Path.{ends, written_by, arcs_cost, path_cost}
use Rattle.transducer.specs.Weight.{magnitude}
use Rattle.transducer.specs.Entry.{unless, cost_unless, left_in}
use Rattle.report.specs.declared.PathEnd.{PathEnd}
use Rattle.report.specs.Answer.{Told}

-- A path told, or a refusal: its cost, how many arcs and labels it has, and both in lent buffers.
pub record PathTold (t : Transducer) (p : List ℕ) (number : ℕ) (r : Told) (a a' b b' : List ℕ) : Type 0 where
  pub refusal_is : r.refusal ≡ number
  pub cost_is : r.cost ≡ cost_unless number (path_cost t p)
  pub arcs_is : r.arcs ≡ unless number (length p)
  pub labels_is : r.labels ≡ unless number (length (written_by t p))
  pub arcs : a' ≡ left_in number a p
  pub labels : b' ≡ left_in number b (written_by t p)

-- The same without refusal, and with no buffer for the arcs.
abbrev pub Tells : (t : Transducer) → (p : List ℕ) → Told → (b b' : List ℕ) → Type 0
Tells t p r b b' = PathTold t p 0 r [] (filled 0 p) b b'

-- The labels of an accepting path put into a buffer, and where it ends.
pub record LabelsPut (t : Transducer) (p : List ℕ) (r : PathEnd) (b b' : List ℕ) : Type 0 where
  pub labels : b' ≡ filled (length b) (written_by t p)
  pub labels_is : r.labels ≡ length (written_by t p)
  pub few : r.labels ≤ max_path
  pub cost_is : r.cost ≡ arcs_cost t p
  pub low : magnitude r.cost ≤ 1023000000
  pub state_is : r.state ≡ ends t t.start p
  pub inside : r.state < max_states
