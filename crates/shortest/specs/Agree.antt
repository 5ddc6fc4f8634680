-- The shortest path beside the costs to come of the same table (paper 02, Point 2). Assumes nothing: these are definitions.
use Rattle.std.specs.Prelude.{◌≡◌, List, ℕ, length}
use Rattle.wire.specs.Bytes.{Bytes}
use Rattle.transducer.specs.Format.{Transducer, decode}
use Rattle.transducer.specs.Weight.{Weight}
use Rattle.report.specs.Answer.{Told}
use Rattle.distance.specs.Distance.{no_path}
use Rattle.distance.specs.Entry.{costs_refusal, CostsSay}
use Rattle.relax.specs.Tentative.{cost_at}
use Rattle.shortest.specs.Entry.{shortest_refusal, ShortestSays}

-- Both calls on one table, each answered as its contract says, whatever they were lent. That the table is bytes holds of slices of bytes.
pub record BothAnswered (table : List ℕ) : Type 0 where
  pub bytes : Bytes table
  pub path : Told
  pub arcs : List ℕ
  pub arcs_left : List ℕ
  pub labels : List ℕ
  pub labels_left : List ℕ
  pub path_says : ShortestSays table (shortest_refusal table (length arcs) (length labels)) path arcs arcs_left labels labels_left
  pub costs : ℕ
  pub cells : List Weight
  pub cells_left : List Weight
  pub costs_say : CostsSay table (costs_refusal table (length cells)) costs cells cells_left

-- Where costs to come are not refused, the start's cell is the least cost that the shortest path tells, or none where that is refused by 16; and that is
-- not refused by 19.
pub record Agrees (t : Transducer) (r : Told) (number : ℕ) (cells : List Weight) : Type 0 where
  pub cost : number ≡ 0 → r.refusal ≡ 0 → cost_at cells t.start ≡ r.cost
  pub none : number ≡ 0 → r.refusal ≡ 16 → cost_at cells t.start ≡ no_path
  pub rises : number ≡ 0 → r.refusal ≡ 19 → ⊥

-- This is claimed of every two calls that were so answered.
abbrev pub BothAgree : {table : List ℕ} → BothAnswered table → Type 0
BothAgree {table} x = Agrees (decode table) x.path x.costs x.cells_left
