-- Marks of states that spread along arcs. Assumes nothing: these are definitions.
use Rattle.std.specs.Prelude.{◌≡◌, Bool, true, false, ◌&&◌, not, cond, ◌⊎◌, List, ℕ, ◌<◌, ltb, length, get_or}
use Rattle.transducer.specs.declared.Arc.{Arc}
use Rattle.transducer.specs.Format.{max_states, Transducer}
use Rattle.transducer.specs.Path.{arc}
use Rattle.reach.specs.Counted.{count}

-- The marks are those of a property.
pub record Marked (p : ℕ → Bool) (ms : List Bool) : Type 0 where
  pub long : length ms ≡ max_states
  pub at_state : (s : ℕ) → get_or ms s false ≡ p s

-- The end of an arc that marks spread from, and the one that they spread to: along the arc, or back where so told.
abbrev pub from_end : (back : Bool) → Arc → ℕ
from_end back a = cond back a.target a.source

abbrev pub to_end : (back : Bool) → Arc → ℕ
to_end back a = cond back a.source a.target

-- A property that passes along each arc, from one end to the other.
abbrev pub Passes : Transducer → (back : Bool) → (ℕ → Bool) → Type 0
Passes t back p =
    (i : ℕ) → i < length t.arcs → p (from_end back (arc t i)) ≡ true → p (to_end back (arc t i)) ≡ true

-- More marks, all of them by arcs: a property that passes along arcs and held of the marked states still does.
pub record Widened (t : Transducer) (back : Bool) (ms ms' : List Bool) : Type 0 where
  pub long : length ms' ≡ length ms
  pub grows : (s : ℕ) → get_or ms s false ≡ true → get_or ms' s false ≡ true
  pub sound : (p : ℕ → Bool) → Passes t back p → ((s : ℕ) → get_or ms s false ≡ true → p s ≡ true) → (s : ℕ) → get_or ms' s false ≡ true → p s ≡ true

-- Marks spread until no more are to come.
pub record Closure (t : Transducer) (back : Bool) (ms ms' : List Bool) : Type 0 where
  pub wider : Widened t back ms ms'
  pub closed : Passes t back (λ s. get_or ms' s false)

-- A mark that spreads from a state to another: nothing else is set.
pub record Spread (ms : List Bool) (from to : ℕ) (ms' : List Bool) : Type 0 where
  pub long : length ms' ≡ length ms
  pub grows : (s : ℕ) → get_or ms s false ≡ true → get_or ms' s false ≡ true
  pub covers : get_or ms from false ≡ true → get_or ms' to false ≡ true
  pub from_old : (s : ℕ) → get_or ms' s false ≡ true → (get_or ms s false ≡ true) ⊎ ((s ≡ to) × (get_or ms from false ≡ true))

-- Whether an arc leads against the order of a sweep, which takes the arcs in order, or the last one first where marks spread back, and has not
-- both marks. Along any other arc no mark is left to spread once the sweep is over, since arcs stand by their sources.
unfoldable pub waits : List Bool → (back : Bool) → (from to : ℕ) → Bool
waits ms back from to = cond back (ltb from to) (ltb to from) && not (get_or ms from false && get_or ms to false)

-- Marks spread along each arc once, and whether more may come.
pub record Swept (t : Transducer) (back : Bool) (ms ms' : List Bool) (again : Bool) : Type 0 where
  pub wider : Widened t back ms ms'
  pub closed : again ≡ false → Passes t back (λ s. get_or ms' s false)

-- How many marks are set.
unfoldable pub number : List Bool → ℕ
number ms = count (length ms) (λ s. get_or ms s false)
