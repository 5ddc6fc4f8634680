-- What an answer of costs to come says of the paths, where the table is not refused and there are enough cells (paper 02, Points 2 and 8).
-- Assumes nothing: these are definitions.
use Rattle.std.specs.Prelude.{◌≡◌, true, ◌↔◌, List, ℕ, ◌≤◌, ◌<◌, length}
use Rattle.wire.specs.Bytes.{Bytes}
use Rattle.transducer.specs.Format.{Transducer, max_states, refusal, decode}
use Rattle.transducer.specs.Path.{is_final, runs, ends}
use Rattle.transducer.specs.Weight.{Weight, AtMost, Below}
use Rattle.cycles.specs.Costs.{cost_from}
use Rattle.cycles.specs.Cycles.{NegativeCycleFrom}
use Rattle.distance.specs.Distance.{no_path}
use Rattle.distance.specs.Entry.{costs_refusal, CostsSay}
use Rattle.relax.specs.Tentative.{cost_at}

-- A call of `costs_to_come` on some bytes, answered as its contract says, with at least 1,024 cells lent; it may be refused. What it was lent stands
-- beside the same as it was left behind (`-left`).
pub record CostsToCome (bytes : List ℕ) : Type 0 where
  pub answer : ℕ
  pub cells : List Weight
  pub cells_left : List Weight
  pub says : CostsSay bytes (costs_refusal bytes (length cells)) answer cells cells_left
  pub room : max_states ≤ length cells

-- The call on a table that is not refused. That the table is bytes holds of slices of bytes.
pub record Answered (table : List ℕ) : Type 0 where
  pub bytes : Bytes table
  pub accepted : refusal table ≡ 0
  pub call : CostsToCome table

-- A path from a state to a final one.
pub record ToFinal (t : Transducer) (s : ℕ) (p : List ℕ) : Type 0 where
  pub goes : runs t s p ≡ true
  pub final : is_final t.finals (ends t s p) ≡ true

-- The least cost of all of them, however long: some path has it, and none costs less.
pub record LeastFrom (t : Transducer) (s : ℕ) (x : Weight) : Type 0 where
  pub path : List ℕ
  pub leads : ToFinal t s path
  pub costs : cost_from t s path ≡ x
  pub least : (p : List ℕ) → ToFinal t s p → AtMost x (cost_from t s p)

-- There is no least cost: below any weight there is a path from the state to a final one.
abbrev pub NoLeastFrom : Transducer → (s : ℕ) → Type 0
NoLeastFrom t s = (w : Weight) → (p : List ℕ) × ToFinal t s p × Below (cost_from t s p) w

-- A state's cell has none exactly where no path leads from it to a final state, and else the least cost.
pub record CellClaim (t : Transducer) (s : ℕ) (x : Weight) : Type 0 where
  pub none : (x ≡ no_path) ↔ ((p : List ℕ) → ToFinal t s p → ⊥)
  pub some : (x ≡ no_path → ⊥) → LeastFrom t s x

-- 19 exactly where some state leads to a cycle below zero and on from there to a final state, and that is where some state has no least cost; else each of
-- the 1,024 cells is as said.
pub record CostsClaim (t : Transducer) (r : ℕ) (cells : List Weight) : Type 0 where
  pub falls : (r ≡ 19) ↔ ((s : ℕ) × NegativeCycleFrom t s)
  pub bottomless : (r ≡ 19) ↔ ((s : ℕ) × NoLeastFrom t s)
  pub told : (r ≡ 19 → ⊥) → (r ≡ 0) × ((s : ℕ) → s < max_states → CellClaim t s (cost_at cells s))

-- This is claimed of every call that was so answered.
abbrev pub CostsClaimed : {table : List ℕ} → Answered table → Type 0
CostsClaimed {table} x = CostsClaim (decode table) x.call.answer x.call.cells_left
