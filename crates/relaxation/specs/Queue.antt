-- A queue of states, and costs and sizes on their way to be settled by it. Assumes nothing: these are definitions.
use Rattle.std.specs.Prelude.{◌≡◌, Bool, true, false, ◌⊎◌, List, ℕ, ◌+◌, ◌%◌, ◌≤◌, ◌<◌, length, get_or, Result, IsOk, IsErr}
use Rattle.transducer.specs.Format.{Transducer, max_states}
use Rattle.transducer.specs.Path.{arc}
use Rattle.transducer.specs.Weight.{Weight}
use Rattle.relax.specs.Tentative.{total}
use Rattle.reach.specs.Counted.{count}
use Rattle.cycles.specs.Cycles.{SomeNegativeCycle}
use Rattle.relax.specs.Tentative.{Sizes, cost_at, by_state, Tentative, NoBetter, Cells, height}

-- The cell of a ring of 1,024 that stands so many behind its head.
unfoldable pub cell : (head k : ℕ) → ℕ
cell head k = (head + k) % max_states

-- Whether a state is marked; whether it waits.
abbrev pub mark : List Bool → (s : ℕ) → Bool
mark ms s = get_or ms s false

abbrev pub waiting : List Bool → (s : ℕ) → Bool
waiting waits s = get_or waits s false

-- The states below n that wait stand in a ring from its head on, none twice.
pub record Queue (n : ℕ) (ring : List ℕ) (waits : List Bool) (head many : ℕ) : Type 0 where
  pub ring_long : length ring ≡ max_states
  pub waits_long : length waits ≡ max_states
  pub head_below : head < max_states
  pub counted : many ≡ count n (waiting waits)
  pub state : (k : ℕ) → k < many → get_or ring (cell head k) 0 < n
  pub waits_there : (k : ℕ) → k < many → waiting waits (get_or ring (cell head k) 0) ≡ true
  pub once : (j k : ℕ) → j < many → k < many → get_or ring (cell head j) 0 ≡ get_or ring (cell head k) 0 → j ≡ k

-- No state waits.
abbrev pub NoneWaits : List Bool → Type 0
NoneWaits waits = (s : ℕ) → s < max_states → waiting waits s ≡ false

-- What waits is a state of the transducer.
abbrev pub Inside : Transducer → (waits : List Bool) → Type 0
Inside t waits = (s : ℕ) → waiting waits s ≡ true → s < t.states

-- What falls with each state that comes off the queue: a state comes on only when its cost or size falls.
unfoldable pub to_do : Transducer → (cs : List Weight) → (ls : Sizes) → (many : ℕ) → ℕ
to_do t cs ls many = total t.states (height (cost_at cs) (by_state ls)) + many

-- What relaxing arc i leaves where its source joins the queue when it gets better: an arc from a marked state makes that better only where it leads to a
-- state that waits, if that held before or it is arc i.
pub record Joined (t : Transducer) (m : ℕ → Bool) (i : ℕ) (cs : List Weight) (ls : Sizes) (waits : List Bool) (many : ℕ) (cs' : List Weight)
    (ls' : Sizes) (waits' : List Bool) (many' : ℕ) : Type 0 where
  pub inside : Inside t waits'
  pub settles : (x : ℕ) → m (arc t x).source ≡ true → (x ≡ i) ⊎ ((waiting waits (arc t x).target ≡ true) ⊎ NoBetter t cs ls x)
      → (waiting waits' (arc t x).target ≡ true) ⊎ NoBetter t cs' ls' x
  pub falls : to_do t cs' ls' many' ≤ to_do t cs ls many

-- What joining answers: `Joined`, or a refusal if a path had too many arcs. Then a cycle below zero lies on an accepting path from a marked state.
pub record Joins {A E : Type 0} (t : Transducer) (m : ℕ → Bool) (i : ℕ) (cs : List Weight) (ls : Sizes) (waits : List Bool) (many : ℕ) (cs' : List Weight)
    (ls' : Sizes) (waits' : List Bool) (many' : ℕ) (r : Result A E) : Type 0 where
  pub cells : Cells t.states cs' ls'
  pub nearing : Tentative t (cost_at cs') (by_state ls')
  pub joined : IsOk r → Joined t m i cs ls waits many cs' ls' waits' many'
  pub stays : IsErr r → SomeNegativeCycle t m

-- Costs and sizes on their way: an arc from a marked state that makes that better leads to a state that waits, or is one of those left to relax.
pub record Draining (t : Transducer) (m left : ℕ → Bool) (cs : List Weight) (ls : Sizes) (waits : List Bool) : Type 0 where
  pub cells : Cells t.states cs ls
  pub nearing : Tentative t (cost_at cs) (by_state ls)
  pub inside : Inside t waits
  pub by_arc : (i : ℕ) → i < length t.arcs → m (arc t i).source ≡ true
      → (left i ≡ true) ⊎ ((waiting waits (arc t i).target ≡ true) ⊎ NoBetter t cs ls i)

-- No arc is left.
abbrev pub none : (i : ℕ) → Bool
none i = false

-- What relaxing a run of arcs leaves, from costs and sizes with so much to do.
pub record Drains {A E : Type 0} (t : Transducer) (m : ℕ → Bool) (todo : ℕ) (cs : List Weight) (ls : Sizes) (waits : List Bool) (many : ℕ) (r : Result A E)
    : Type 0 where
  pub cells : Cells t.states cs ls
  pub nearing : Tentative t (cost_at cs) (by_state ls)
  pub draining : IsOk r → Draining t m none cs ls waits
  pub falls : IsOk r → to_do t cs ls many ≤ todo
  pub stays : IsErr r → SomeNegativeCycle t m

-- What the queue leaves in the end.
pub record Drained (t : Transducer) (m : ℕ → Bool) (cs : List Weight) (ls : Sizes) (r : Bool) : Type 0 where
  pub cells : Cells t.states cs ls
  pub nearing : Tentative t (cost_at cs) (by_state ls)
  pub relaxed : r ≡ true → (i : ℕ) → i < length t.arcs → m (arc t i).source ≡ true → NoBetter t cs ls i
  pub stays : r ≡ false → SomeNegativeCycle t m
