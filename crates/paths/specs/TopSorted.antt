-- Counts where states are topologically sorted. Assumes nothing: these are definitions.
use Rattle.std.specs.Prelude.{◌≡◌, Bool, false, List, ℕ, ◌≤◌, ◌<◌, length, Option, IfSome, IsTrue}
use Rattle.transducer.specs.Format.{max_states, Transducer}
use Rattle.transducer.specs.Path.{arc}
use Rattle.capped.specs.declared.Count.{Count}
use Rattle.paths.specs.Count.{endless, path_count}
use Rattle.paths.specs.Tally.{own}
use Rattle.paths.specs.Sweep.{at_state, Totalled}

-- From arc i on states are topologically sorted: each arc leads to a higher number.
abbrev pub TopSorted : Transducer → (i : ℕ) → Type 0
TopSorted t i = (j : ℕ) → i ≤ j → j < length t.arcs → (arc t j).source < (arc t j).target

-- The counts of the empty paths from so many states.
pub record EmptyPaths (t : Transducer) (states : ℕ) (cs : List Count) : Type 0 where
  pub long : length cs ≡ max_states
  pub counts : (s : ℕ) → s < states → at_state cs s ≡ own t s

-- Topologically sorted, a transducer has no cycle.
abbrev pub PassSays : Transducer → (sorted : Bool) → List Count → Type 0
PassSays t sorted cs = IsTrue sorted → Totalled t cs

pub record FromStart (t : Transducer) (c : Count) : Type 0 where
  pub finite : endless t ≡ false
  pub complete : c.value ≡ path_count t

abbrev pub FromStartSays : Transducer → Option Count → Type 0
FromStartSays t r = IfSome r (λ c. FromStart t c)
