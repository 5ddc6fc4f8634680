-- The least cost still to come from a state (the shortest distance to the final states). Assumes nothing: these are definitions.
use Rattle.std.specs.Prelude.{cond, List, [], ◌∷◌, ℕ}
use Rattle.transducer.specs.Format.{Transducer}
use Rattle.transducer.specs.Weight.{Weight, amount, at_most}
use Rattle.paths.specs.Count.{paths_from}
use Rattle.cycles.specs.Costs.{cost_from}

-- The cost where nothing accepts: above that of every path that visits no state twice.
abbrev pub no_path : Weight
no_path = amount 1000000000001

-- The lesser of two costs, and the least cost of a run of paths from a state.
unfoldable pub lesser : (x y : Weight) → Weight
lesser x y = cond (at_most x y) x y

unfoldable pub least_of : Transducer → (s : ℕ) → List (List ℕ) → Weight
least_of t s [] = no_path
least_of t s (p ∷ l) = lesser (cost_from t s p) (least_of t s l)

-- The least cost to come from a state.
unfoldable pub least_to_come : Transducer → (s : ℕ) → Weight
least_to_come t s = least_of t s (paths_from t.states t s)
