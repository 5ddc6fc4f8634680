-- What a sweep over arcs leaves, of one state and of all. Assumes nothing: these are definitions.
use Rattle.std.specs.Prelude.{◌≡◌, Bool, false, List, ℕ, ◌≤◌, ◌<◌, length}
use Rattle.transducer.specs.Format.{Transducer}
use Rattle.transducer.specs.Path.{arc}
use Rattle.transducer.specs.Weight.{Weight, AtMost}
use Rattle.cycles.specs.Cycles.{anywhere}
use Rattle.relax.specs.Tentative.{Sizes, cost_at, by_state, cost_by, Tentative, Settled, Cells, NoBetter}

-- The arcs from one to below another are those of state s.
pub record Leave (t : Transducer) (s from to : ℕ) : Type 0 where
  pub state : s < t.states
  pub inside : to ≤ length t.arcs
  pub here : (i : ℕ) → from ≤ i → i < to → (arc t i).source ≡ s
  pub behind : (i : ℕ) → to ≤ i → i < length t.arcs → s ≤ (arc t i).source

-- None of them gives a cost below the bar.
abbrev pub Barred : Transducer → (from to : ℕ) → (bar : Weight) → List Weight → Type 0
Barred t from to bar cs = (i : ℕ) → from ≤ i → i < to → AtMost bar (cost_by t (cost_at cs) i)

-- No arc from i on makes its source better.
pub record SweptFrom (t : Transducer) (i : ℕ) (cs : List Weight) (ls : Sizes) : Type 0 where
  pub cells : Cells t.states cs ls
  pub nearing : Tentative t (cost_at cs) (by_state ls)
  pub settled : (x : ℕ) → i ≤ x → x < length t.arcs → NoBetter t cs ls x

-- What a sweep over the arcs of state s, from one on, leaves.
pub record StateSwept (t : Transducer) (s from : ℕ) (cs cs' : List Weight) (ls' : Sizes) (again : Bool) : Type 0 where
  pub cells : Cells t.states cs' ls'
  pub nearing : Tentative t (cost_at cs') (by_state ls')
  pub others : (u : ℕ) → (u ≡ s → ⊥) → cost_at cs' u ≡ cost_at cs u
  pub settled : again ≡ false → SweptFrom t from cs' ls'

-- What a sweep over the arcs leaves: where no more may change all is settled.
pub record SweptSays (t : Transducer) (cs : List Weight) (ls : Sizes) (again : Bool) : Type 0 where
  pub cells : Cells t.states cs ls
  pub nearing : Tentative t (cost_at cs) (by_state ls)
  pub settled : again ≡ false → Settled t anywhere (cost_at cs) (by_state ls)
