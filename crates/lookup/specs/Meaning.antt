-- What a lookup says of the paths of the transducer that fit the string. Assumes nothing: these are definitions.
use Rattle.std.specs.Prelude.{◌≡◌, true, false, List, ℕ, ◌≤◌}
use Rattle.transducer.specs.Format.{Transducer}
use Rattle.transducer.specs.Path.{accepts, path_cost}
use Rattle.transducer.specs.Each.{path_fits}
use Rattle.transducer.specs.Weight.{AtMost, magnitude}
use Rattle.cycles.specs.Cycles.{negative_cycle}
use Rattle.lattice.specs.Lattice.{lattice}
use Rattle.lookup.specs.Answer.{LookedUp}

-- An accepting path of the transducer that fits the string.
pub record Reads (cs : List ℕ) (t : Transducer) (x : List ℕ) : Type 0 where
  pub accepting : accepts t x ≡ true
  pub fitting : path_fits t cs x ≡ true

-- If the count is told, some path reads the string, of the least cost of all, and no cycle below zero lies on an accepting path of the lattice, so that 19
-- cannot arise; the cost is small.
pub record Means (cs : List ℕ) (t : Transducer) (r : LookedUp) : Type 0 where
  pub some : r.refusal ≡ 0 → (x : List ℕ) × Reads cs t x × (path_cost t x ≡ r.cost)
  pub least : r.refusal ≡ 0 → (y : List ℕ) → Reads cs t y → AtMost r.cost (path_cost t y)
  pub none : r.refusal ≡ 16 → (y : List ℕ) → Reads cs t y → ⊥
  pub never_19 : r.refusal ≡ 0 → negative_cycle (lattice cs t) ≡ false
  pub small : magnitude r.cost ≤ 1024000000
