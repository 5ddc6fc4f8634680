-- What the paths of a reversed transducer are. Assumes nothing: these are definitions.
use Rattle.std.specs.Prelude.{◌≡◌, List, [], ◌∷◌, ◌++◌, ℕ, get_or}
use Rattle.transducer.specs.Format.{Transducer}
use Rattle.transducer.specs.Path.{arcs_cost}
use Rattle.transducer.specs.Weight.{Weight, AtMost}
use Rattle.cycles.specs.Cycles.{Leads}

-- The path that a path of the reversed transducer stands for: the arcs that its arcs come from, the last one first.
unfoldable pub backwards : (origins path : List ℕ) → List ℕ
backwards origins [] = []
backwards origins (j ∷ p) = backwards origins p ++ (get_or origins j 0 ∷ [])

-- The least cost of the arcs of all paths from one state to another, however long.
pub record LeastBetween (t : Transducer) (s u : ℕ) (x : Weight) : Type 0 where
  pub path : List ℕ
  pub leads : Leads t s u path
  pub costs : arcs_cost t path ≡ x
  pub least : (p : List ℕ) → Leads t s u p → AtMost x (arcs_cost t p)
