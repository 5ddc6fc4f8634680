-- Marks and counts by state, on their way and settled. Assumes nothing: these are definitions.
use Rattle.std.specs.Prelude.{◌≡◌, Bool, true, false, not, List, ℕ, ◌≤◌, ◌<◌, min, length, get_or}
use Rattle.transducer.specs.Format.{max_states, Transducer, decode}
use Rattle.transducer.specs.Accepted.{AcceptedAt, Indexed}
use Rattle.capped.specs.declared.Count.{Count}
use Rattle.paths.specs.declared.Totals.{Totals}
use Rattle.paths.specs.declared.Totals.TheVariants.{Finite, Endless}
use Rattle.reach.specs.Reach.{some_arc}
use Rattle.capped.specs.Marks.{marked}
use Rattle.paths.specs.Count.{paths_from, goes_on, endless, most_counted}
use Rattle.paths.specs.Tally.{tally}

-- Accepted bytes: where their arcs begin, the number of states, and the first-arc index.
pub record Ready (bs : List ℕ) (first states : ℕ) (index : List ℕ) : Type 0 where
  pub opened : AcceptedAt bs first
  pub states_are : states ≡ (decode bs).states
  pub indexed : Indexed (decode bs) index

-- Marks

-- Marks on their way: a marked state has no accepting path of so many arcs.
pub record Stopping (t : Transducer) (g : ℕ → Bool) : Type 0 where
  pub rounds : ℕ
  pub stops : (s : ℕ) → s < t.states → g s ≡ true → goes_on rounds t s ≡ false

-- Whether some arc of a state leads to an unmarked one.
unfoldable pub leads_on : Transducer → List Bool → (s : ℕ) → Bool
leads_on t ms s = some_arc t.arcs s (λ u. not (marked ms u))

-- Counts

-- A state's count in an array of counts.
unfoldable pub at_state : List Count → (s : ℕ) → ℕ
at_state cs s = (get_or cs s (record { value = 0 })).value

-- Counts on their way: that of each marked state is its tally, of so many arcs or more.
pub record Tallied (t : Transducer) (ms : List Bool) (cs : List Count) : Type 0 where
  pub long : length cs ≡ max_states
  pub rounds : ℕ
  pub tallied : (s : ℕ) → s < t.states → marked ms s ≡ true → (k : ℕ) → rounds ≤ k → at_state cs s ≡ tally k t s

-- In the end: the count of each state from which only finitely many accepting paths go.
pub record PathCounts (t : Transducer) (cs : List Count) : Type 0 where
  pub long : length cs ≡ max_states
  pub counts : (s : ℕ) → s < t.states → goes_on t.states t s ≡ false → at_state cs s ≡ min most_counted (length (paths_from t.states t s))

pub record Totalled (t : Transducer) (cs : List Count) : Type 0 where
  pub finite : endless t ≡ false
  pub settled : PathCounts t cs

-- The counts, by whether accepting paths are infinitely many.
abbrev pub TotalsSay : Transducer → Totals → Type 0
TotalsSay t (Finite cs) = Totalled t cs
TotalsSay t (Endless cs) = (endless t ≡ true) × PathCounts t cs
