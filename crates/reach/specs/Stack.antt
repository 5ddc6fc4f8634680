-- A stack of marked states whose arcs are still to be followed, and the arcs in chains. Assumes nothing: these are definitions.
use Rattle.std.specs.Prelude.{◌≡◌, Bool, true, false, cond, List, ℕ, zero, suc, ◌+◌, ◌≤◌, ◌<◌, eqb, length, get_or}
use Rattle.transducer.specs.Format.{max_arcs, max_states, Transducer}
use Rattle.transducer.specs.Path.{arc}
use Rattle.reach.specs.Cell.{cell_of}
use Rattle.reach.specs.Marks.{from_end, to_end, Widened, number}

-- Of the first i arcs the last from a state, as its number and one more; 0 where there is none.
unfoldable pub last : Transducer → (back : Bool) → (s : ℕ) → (i : ℕ) → ℕ
last t back s zero = 0
last t back s (suc i) = cond (eqb (from_end back (arc t i)) s) (suc i) (last t back s i)

-- The cell of an arc, by its link: the state that it leads to, and the link. 0 for none.
unfoldable pub cell : Transducer → (back : Bool) → (k : ℕ) → ℕ
cell t back zero = 0
cell t back (suc i) = cell_of (to_end back (arc t i)) (suc i)

-- The arcs in chains: at a state the cell of its last arc, at an arc that of the last one before it from the same state.
pub record Chained (t : Transducer) (back : Bool) (heads next : List ℕ) : Type 0 where
  pub heads_long : length heads ≡ max_states
  pub next_long : length next ≡ max_arcs
  pub head_at : (s : ℕ) → s < max_states → get_or heads s 0 ≡ cell t back (last t back s (length t.arcs))
  pub next_at : (i : ℕ) → i < length t.arcs → get_or next i 0 ≡ cell t back (last t back (from_end back (arc t i)) i)

-- A state is not among the first so many on a stack.
abbrev pub Off : (stack : List ℕ) → (top s : ℕ) → Type 0
Off stack top s = (j : ℕ) → j < top → get_or stack j 0 ≡ s → ⊥

-- The states on the stack are marked and no more than the marks, and each arc from a marked state that is not on it leads to a marked one.
pub record Waiting (t : Transducer) (back : Bool) (ms : List Bool) (stack : List ℕ) (top : ℕ) : Type 0 where
  pub marks_long : length ms ≡ max_states
  pub stack_long : length stack ≡ max_states
  pub few : top ≤ number ms
  pub held : (j : ℕ) → j < top → (get_or stack j 0 < t.states) × (get_or ms (get_or stack j 0) false ≡ true)
  pub closed : (i : ℕ) → i < length t.arcs → get_or ms (from_end back (arc t i)) false ≡ true → Off stack top (from_end back (arc t i))
      → get_or ms (to_end back (arc t i)) false ≡ true

-- The arcs of the state that stood at `top` are followed, and new states are on the stack from there on, no more than are newly marked.
pub record Served (t : Transducer) (back : Bool) (top : ℕ) (ms ms' : List Bool) (stack : List ℕ) (top' : ℕ) : Type 0 where
  pub wider : Widened t back ms ms'
  pub rises : top ≤ top'
  pub pushed : number ms + top' ≤ number ms' + top
  pub waiting : Waiting t back ms' stack top'

-- The marked states below n are on the stack.
pub record Pushed (n : ℕ) (ms : List Bool) (stack : List ℕ) (top : ℕ) : Type 0 where
  pub stack_long : length stack ≡ max_states
  pub few : top ≤ number ms
  pub held : (j : ℕ) → j < top → (get_or stack j 0 < n) × (get_or ms (get_or stack j 0) false ≡ true)
  pub all : (s : ℕ) → s < n → get_or ms s false ≡ true → Off stack top s → ⊥
