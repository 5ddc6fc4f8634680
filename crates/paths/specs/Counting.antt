-- States that wait to be counted: for each the number of its open arcs, those to states that are not counted, and a stack of those without any.
-- Assumes nothing: these are definitions.
use Rattle.std.specs.Prelude.{◌≡◌, Bool, true, false, ◌&&◌, not, cond, List, ℕ, zero, suc, ◌+◌, ◌-◌, ◌≤◌, ◌<◌, min, ltb, eqb, length, get_or, set}
use Rattle.transducer.specs.Format.{max_states, Transducer}
use Rattle.transducer.specs.Path.{arc}
use Rattle.reach.specs.Counted.{count}
use Rattle.reach.specs.Stack.{Off}
use Rattle.capped.specs.declared.Count.{Count}
use Rattle.paths.specs.Count.{most_counted}
use Rattle.paths.specs.Tally.{own}
use Rattle.capped.specs.Marks.{marked}
use Rattle.paths.specs.Sweep.{leads_on, at_state, Stopping, Tallied}

-- Whether an arc leaves a state and is not done.
unfoldable pub open_at : Transducer → (done : ℕ → Bool) → (u : ℕ) → (k : ℕ) → Bool
open_at t done u k = eqb (arc t k).source u && not (done k)

-- An arc is done once the state that it leads to is marked.
unfoldable pub by_marks : Transducer → List Bool → (k : ℕ) → Bool
by_marks t ms k = marked ms (arc t k).target

-- The open arcs of each state, of the first i.
pub record OpenedArcs (t : Transducer) (done : ℕ → Bool) (i : ℕ) (left : List ℕ) : Type 0 where
  pub long : length left ≡ max_states
  pub lefts : (u : ℕ) → u < max_states → get_or left u 0 ≡ count i (open_at t done u)

-- Whether a state has open arcs.
unfoldable pub is_open : List ℕ → (u : ℕ) → Bool
is_open left u = ltb 0 (get_or left u 0)

-- Of the states below n, those that are not marked and have no open arc are on the stack, each once, and no others.
pub record Stacked (n : ℕ) (ms : List Bool) (left stack : List ℕ) (top : ℕ) : Type 0 where
  pub long : length stack ≡ max_states
  pub held : (a : ℕ) → a < top → (get_or stack a 0 < n) × (marked ms (get_or stack a 0) ≡ false) × (get_or left (get_or stack a 0) 0 ≡ 0)
  pub apart : (a b : ℕ) → a < b → b < top → get_or stack a 0 ≡ get_or stack b 0 → ⊥
  pub all : (u : ℕ) → u < n → marked ms u ≡ false → get_or left u 0 ≡ 0 → Off stack top u → ⊥
  pub few : top + count n (is_open left) ≤ n

-- Marked states have no open arc.
pub record Counting (t : Transducer) (done : ℕ → Bool) (ms : List Bool) (left stack : List ℕ) (top : ℕ) : Type 0 where
  pub marks_long : length ms ≡ max_states
  pub opened : OpenedArcs t done (length t.arcs) left
  pub shut : (u : ℕ) → u < t.states → marked ms u ≡ true → get_or left u 0 ≡ 0
  pub stacked : Stacked t.states ms left stack top

-- One open arc fewer at a state, which goes on the stack where that was the last.
pub record ClosedArc (left stack : List ℕ) (u top : ℕ) (left' stack' : List ℕ) (top' : ℕ) : Type 0 where
  pub left_is : left' ≡ set left u (get_or left u 0 - 1)
  pub kept : (get_or left u 0 - 1 ≡ 0 → ⊥) → (stack' ≡ stack) × (top' ≡ top)
  pub pushed : get_or left u 0 - 1 ≡ 0 → (stack' ≡ set stack top u) × (top' ≡ top + 1)

-- The sum of the counts where the done arcs of a state lead, of the first n arcs.
unfoldable pub sum_done : (n : ℕ) → Transducer → (done : ℕ → Bool) → (u : ℕ) → (count : ℕ → ℕ) → ℕ
sum_done zero t done u c = 0
sum_done (suc n) t done u c = sum_done n t done u c + cond (eqb (arc t n).source u && done n) (c (arc t n).target) 0

-- A count has that of the empty path and those where the done arcs lead.
pub record PartialSums (t : Transducer) (done : ℕ → Bool) (cs : List Count) : Type 0 where
  pub long : length cs ≡ max_states
  pub sums : (u : ℕ) → u < t.states → at_state cs u ≡ min most_counted (own t u + sum_done (length t.arcs) t done u (at_state cs))

-- The marked states are counted, and those without an open arc wait on the stack.
pub record Underway (t : Transducer) (ms : List Bool) (left stack : List ℕ) (top : ℕ) (cs : List Count) : Type 0 where
  pub counting : Counting t (by_marks t ms) ms left stack top
  pub stopping : Stopping t (marked ms)
  pub tallied : Tallied t ms cs
  pub parts : PartialSums t (by_marks t ms) cs

-- None waits any more: an arc leads from each unmarked state to an unmarked one, and from no marked one.
pub record Rested (t : Transducer) (ms : List Bool) (cs : List Count) : Type 0 where
  pub marks_long : length ms ≡ max_states
  pub shut : (s : ℕ) → s < t.states → marked ms s ≡ true → leads_on t ms s ≡ false
  pub rest : (s : ℕ) → s < t.states → marked ms s ≡ false → leads_on t ms s ≡ true
  pub stopping : Stopping t (marked ms)
  pub tallied : Tallied t ms cs
  pub parts : PartialSums t (by_marks t ms) cs

-- Marked states stay marked.
abbrev pub Grown : (ms ms' : List Bool) → Type 0
Grown ms ms' = (s : ℕ) → marked ms s ≡ true → marked ms' s ≡ true
