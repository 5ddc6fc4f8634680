-- What costs to come answer and leave behind. Assumes nothing: these are definitions.
use Rattle.std.specs.Prelude.{◌≡◌, cond, List, ℕ, ◌<◌, ltb, length}
use Rattle.wire.specs.Bytes.{places}
use Rattle.transducer.specs.Format.{Transducer, max_states, refusal, decode}
use Rattle.transducer.specs.Entry.{or_else, weights_left_in}
use Rattle.transducer.specs.Weight.{Weight}
use Rattle.cycles.specs.Cycles.{negative_cycle_anywhere}
use Rattle.distance.specs.Distance.{no_path, least_to_come}
use Rattle.relax.specs.Tentative.{cost_at}
use Rattle.distance.specs.Ended.{cost_told}

-- What distance refuses of accepted bytes: 19 if a final state can be reached from a cycle below zero, whether the start reaches that or not.
abbrev pub accepted_costs_refusal : Transducer → ℕ
accepted_costs_refusal t = cond (negative_cycle_anywhere t) 19 0

-- 1 to 8, 10 for fewer than 1,024 cells, then 19.
unfoldable pub costs_refusal : List ℕ → (cells : ℕ) → ℕ
costs_refusal bs cells = or_else (refusal bs) (cond (ltb cells max_states) 10 (accepted_costs_refusal (decode bs)))

-- A cell for each state that there can be. Past the last state nothing is final, so the cell has none.
unfoldable pub costs_to_come : Transducer → List Weight
costs_to_come t = places max_states 0 1 (least_to_come t)

pub record CostsSay (bs : List ℕ) (number r : ℕ) (cells cells' : List Weight) : Type 0 where
  pub refusal_is : r ≡ number
  pub cells_are : cells' ≡ weights_left_in number cells (costs_to_come (decode bs))

-- The cells by the costs of so many states: none past the last of them.
unfoldable pub cost_or_none : (states : ℕ) → (costs : List Weight) → (s : ℕ) → Weight
cost_or_none states cs s = cond (ltb s states) (cost_told (cost_at cs s)) no_path

-- So many costs put into the first cells.
pub record Copied (states : ℕ) (costs cells cells' : List Weight) : Type 0 where
  pub long : length cells' ≡ length cells
  pub put : (s : ℕ) → s < states → cost_at cells' s ≡ cost_told (cost_at costs s)
