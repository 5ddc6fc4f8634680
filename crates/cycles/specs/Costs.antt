-- What a path from any state costs. Assumes nothing: these are definitions.
use Rattle.std.specs.Prelude.{List, ℕ}
use Rattle.transducer.specs.Format.{Transducer}
use Rattle.transducer.specs.Path.{final_weight, ends, arcs_cost}
use Rattle.transducer.specs.Weight.{Weight, plus}

-- Its arcs, and the final weight of the state where it ends.
unfoldable pub cost_from : Transducer → (s : ℕ) → (path : List ℕ) → Weight
cost_from t s p = plus (arcs_cost t p) (final_weight t.finals (ends t s p))
