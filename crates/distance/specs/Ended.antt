-- What sweeps and queue come to in the end. Assumes nothing: these are definitions.
use Rattle.std.specs.Prelude.{◌≡◌, Bool, true, false, cond, List, ℕ, ◌<◌}
use Rattle.transducer.specs.declared.Facts.{Facts}
use Rattle.transducer.specs.Format.{Transducer, min_weight}
use Rattle.transducer.specs.Weight.{Weight, below}
use Rattle.reach.specs.Reach.{accessible}
use Rattle.cycles.specs.Cycles.{anywhere, SomeNegativeCycle}
use Rattle.relax.specs.Tentative.{Sizes, unreached, cost_at, by_state, Cells, Settled}
use Rattle.distance.specs.Distance.{no_path, least_to_come}

-- The facts of validation that hold of all accepted bytes.
abbrev pub unvalidated : Facts
unvalidated = record { least = min_weight; top_sorted = false; no_output_epsilon = false; no_any_input = false }

-- The states that count: all, or those that the start reaches.
abbrev pub counted : (everywhere : Bool) → Transducer → (s : ℕ) → Bool
counted everywhere t = cond everywhere anywhere (accessible t.states t)

-- A cost in an array as it is told.
unfoldable pub cost_told : Weight → Weight
cost_told x = cond (below x unreached) x no_path

-- What is left in the end: the least cost to come from each state that counts, with the fewest labels at that cost and the fewest arcs with these; or a
-- cycle below zero that such a state leads to, before a final state.
pub record DistancesSay (t : Transducer) (counts : ℕ → Bool) (cs : List Weight) (ls : Sizes) (r : Bool) : Type 0 where
  pub cells : Cells t.states cs ls
  pub settled : r ≡ true → Settled t counts (cost_at cs) (by_state ls)
  pub least : r ≡ true → (s : ℕ) → s < t.states → counts s ≡ true → cost_told (cost_at cs s) ≡ least_to_come t s
  pub falls : r ≡ false → SomeNegativeCycle t counts
