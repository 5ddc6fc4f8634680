-- By state, the least cost to come, the fewest labels at that cost and the fewest arcs with these: on their way, and settled.
-- Assumes nothing: these are definitions.
use Rattle.std.specs.Prelude.{◌≡◌, Bool, true, false, ◌&&◌, cond, ◌⊎◌, List, ◌++◌, ℕ, zero, suc, ◌+◌, ◌*◌, ◌/◌, ◌%◌, ◌≤◌, ◌<◌, eqb, leb, length, get_or}
use Rattle.transducer.specs.Format.{Transducer, max_states, weight_good}
use Rattle.transducer.specs.Path.{arc, is_final, final_weight, runs, ends, arcs_cost}
use Rattle.transducer.specs.Weight.{Weight, no_weight, amount, rebate, plus, AtMost, Below, at_most, below, magnitude, weight_of}
use Rattle.reach.specs.Marks.{Passes}
use Rattle.cycles.specs.Costs.{cost_from}
use Rattle.cycles.specs.Cycles.{NegativeCycleFrom}
use Rattle.relax.specs.declared.relaxing.Change.{Change}
use Rattle.relax.specs.declared.relaxing.Change.TheVariants.{Kept, Better, TooLong}
use Rattle.relax.specs.Size.{Size, size_of}

-- The cost of a state from which no path is known, in an array: above that of every path of fewer arcs than there are states.
abbrev pub unreached : Weight
unreached = amount 2000000000

-- A state's cost in an array.
abbrev pub cost_at : List Weight → (s : ℕ) → Weight
cost_at cs s = get_or cs s no_weight

-- A size as one number. Labels and arcs are below 65,536, so that sizes compare as these numbers do.
abbrev pub packed : Size → ℕ
packed l = l.arcs + 65536 * l.labels

unfoldable pub unpacked : ℕ → Size
unpacked n = record { labels = n / 65536; arcs = n % 65536 }

-- An array with the size of each state's path in one number, and a state's size in it.
abbrev pub Sizes : Type 0
Sizes = List ℕ

abbrev pub by_state : Sizes → (s : ℕ) → Size
by_state xs s = unpacked (get_or xs s 0)

-- The size of the empty path, and of a path with an arc in front that writes a label, or none where that is empty.
abbrev pub no_size : Size
no_size = record { labels = 0; arcs = 0 }

unfoldable pub labels_of : (output : ℕ) → ℕ
labels_of x = cond (eqb x 0) 0 1

unfoldable pub longer : (output : ℕ) → Size → Size
longer x l = record { labels = l.labels + labels_of x; arcs = l.arcs + 1 }

-- No dearer; where it costs the same, no more labels; where it also has as many of these, no more arcs.
pub record NoWorse (x : Weight) (l : Size) (y : Weight) (k : Size) : Type 0 where
  pub cost : AtMost x y
  pub labels : AtMost y x → l.labels ≤ k.labels
  pub arcs : AtMost y x → k.labels ≤ l.labels → l.arcs ≤ k.arcs

-- The same, with fewer arcs where cost and labels are the same.
pub record Nearer (x : Weight) (l : Size) (y : Weight) (k : Size) : Type 0 where
  pub cost : AtMost x y
  pub labels : AtMost y x → l.labels ≤ k.labels
  pub arcs : AtMost y x → k.labels ≤ l.labels → l.arcs < k.arcs

-- A weight and the cost to come behind it.
unfoldable pub onward : (weight cost : Weight) → Weight
onward w x = cond (below x unreached) (plus w x) unreached

-- Cost and size from an arc's source by way of the arc, by those from its target.
unfoldable pub cost_by : Transducer → (costs : ℕ → Weight) → (i : ℕ) → Weight
cost_by t c i = onward (arc t i).weight (c (arc t i).target)

unfoldable pub size_by : Transducer → (lens : ℕ → Size) → (i : ℕ) → Size
size_by t l i = longer (arc t i).output (l (arc t i).target)

-- Each arc writes a label.
abbrev pub Writes : Transducer → Type 0
Writes t = (i : ℕ) → i < length t.arcs → 0 < (arc t i).output

-- No weight is below zero, and each arc writes a label.
pub record Rising (t : Transducer) : Type 0 where
  pub writes : Writes t
  pub arcs : (i : ℕ) → i < length t.arcs → AtMost no_weight (arc t i).weight
  pub finals : (s : ℕ) → s < t.states → is_final t.finals s ≡ true → AtMost no_weight (final_weight t.finals s)

-- The same of weights, by a weight that none of the arcs is below and the costs of the empty paths from so many states.
pub record PlainCosts (least : Weight) (states : ℕ) (cs : List Weight) : Type 0 where
  pub arcs : AtMost no_weight least
  pub costs : (s : ℕ) → s < states → AtMost no_weight (cost_at cs s)

-- A cost and a size that no arc makes better where each arc writes a label and none gives a cost below the bar: each arc is one more, with a label more. Where
-- no weight is below zero the bar is 0.
unfoldable pub is_nearest : (bar cost : Weight) → Size → Bool
is_nearest bar x l = at_most x bar && leb (packed l) 65537

-- The cost of the empty path from a state, and the same by its final code.
unfoldable pub own_cost : Transducer → (s : ℕ) → Weight
own_cost t s = cond (is_final t.finals s) (final_weight t.finals s) unreached

unfoldable pub code_cost : (code : ℕ) → Weight
code_cost code = cond (eqb code 0) unreached (weight_of code)

-- The path behind a state's cost and size. The states along it are by now no worse than by that path, and each cycle on it sums below zero: it was
-- gone round because that made its state better.
pub record Reached (t : Transducer) (c : ℕ → Weight) (l : ℕ → Size) (s : ℕ) : Type 0 where
  pub path : List ℕ
  pub goes : runs t s path ≡ true
  pub final : is_final t.finals (ends t s path) ≡ true
  pub costs : cost_from t s path ≡ c s
  pub size : size_of t path ≡ l s
  pub few : length path < t.states
  pub along : (lead rest : List ℕ) → path ≡ lead ++ rest
      → NoWorse (c (ends t s lead)) (l (ends t s lead)) (cost_from t (ends t s lead) rest) (size_of t rest)
  pub cycles : (lead cycle rest : List ℕ) → path ≡ lead ++ (cycle ++ rest) → 0 < length cycle → ends t s (lead ++ cycle) ≡ ends t s lead
      → Below (arcs_cost t cycle) no_weight

-- Costs and sizes on their way: each is that of some accepting path, and none is worse than the empty path.
pub record Tentative (t : Transducer) (c : ℕ → Weight) (l : ℕ → Size) : Type 0 where
  pub high : (s : ℕ) → s < t.states → AtMost (c s) unreached
  pub reached : (s : ℕ) → s < t.states → Below (c s) unreached → Reached t c l s
  pub empty : (s : ℕ) → s < t.states → NoWorse (c s) (l s) (own_cost t s) no_size

-- Costs and sizes that no arc makes better, at the states that count, from which arcs lead only to such states.
pub record Settled (t : Transducer) (counts : ℕ → Bool) (c : ℕ → Weight) (l : ℕ → Size) : Type 0 where
  pub nearing : Tentative t c l
  pub onwards : Passes t false counts
  pub by_arc : (i : ℕ) → i < length t.arcs → counts (arc t i).source ≡ true
      → NoWorse (c (arc t i).source) (l (arc t i).source) (cost_by t c i) (size_by t l i)

-- No cost that is kept is below this: a path behind one has fewer arcs than there are states.
abbrev pub least_cost : Weight
least_cost = rebate 2000000000

-- Cost and size as one number, which falls where they get better.
unfoldable pub height : (c : ℕ → Weight) → (l : ℕ → Size) → (s : ℕ) → ℕ
height c l s = 65536 * (65536 * magnitude (plus (c s) (amount 2000000000)) + (l s).labels) + (l s).arcs

-- The sum of the numbers of so many states.
unfoldable pub total : (states : ℕ) → (number : ℕ → ℕ) → ℕ
total zero f = 0
total (suc n) f = total n f + f n

-- Arrays with a cost and a size for each of n states.
pub record Cells (n : ℕ) (cs : List Weight) (ls : Sizes) : Type 0 where
  pub costs : n ≤ length cs
  pub lens : n ≤ length ls
  pub low : (s : ℕ) → AtMost least_cost (cost_at cs s)
  pub high : (s : ℕ) → AtMost (cost_at cs s) unreached
  pub few_labels : (s : ℕ) → (by_state ls s).labels ≤ max_states
  pub few : (s : ℕ) → (by_state ls s).arcs ≤ max_states

-- An arc that does not make its source better.
abbrev pub NoBetter : Transducer → (cs : List Weight) → (ls : Sizes) → (i : ℕ) → Type 0
NoBetter t cs ls i =
    NoWorse (cost_at cs (arc t i).source) (by_state ls (arc t i).source) (cost_by t (cost_at cs) i) (size_by t (by_state ls) i)

-- How many sources get better by it.
abbrev pub gained : Change → ℕ
gained Kept = 0
gained Better = 1
gained TooLong = 0

-- What relaxing arc i leaves: neither it nor an arc that did not before makes its source better now, unless it leads to what got better. A path of as many
-- arcs as states comes back to a state, and only round cycles below zero.
pub record Relaxed (t : Transducer) (i : ℕ) (cs : List Weight) (ls : Sizes) (cs' : List Weight) (ls' : Sizes) (change : Change) : Type 0 where
  pub cells : Cells t.states cs' ls'
  pub nearing : Tentative t (cost_at cs') (by_state ls')
  pub nearest : Rising t → (s : ℕ) → is_nearest no_weight (cost_at cs s) (by_state ls s) ≡ true
      → is_nearest no_weight (cost_at cs' s) (by_state ls' s) ≡ true
  pub others : (u : ℕ) → (u ≡ (arc t i).source → ⊥) → cost_at cs' u ≡ cost_at cs u
  pub settles : (x : ℕ) → (x ≡ i) ⊎ NoBetter t cs ls x → (change ≡ TooLong → ⊥) → (change ≡ Better → (arc t x).target ≡ (arc t i).source → ⊥)
      → NoBetter t cs' ls' x
  pub falls : total t.states (height (cost_at cs') (by_state ls')) + gained change ≤ total t.states (height (cost_at cs) (by_state ls))
  pub negative_cycle : change ≡ TooLong → NegativeCycleFrom t (arc t i).source

-- A weight that none of the arcs is below.
abbrev pub Light : Transducer → (least : Weight) → Type 0
Light t least = (i : ℕ) → i < length t.arcs → AtMost least (arc t i).weight

-- Each arc leads to a higher state.
abbrev pub LeadsUp : Transducer → Type 0
LeadsUp t = (i : ℕ) → i < length t.arcs → (arc t i).source < (arc t i).target

-- The same, and writes a label; with a weight of at most zero that none of the arcs is below.
pub record Forward (t : Transducer) (least : Weight) : Type 0 where
  pub up : LeadsUp t
  pub writes : Writes t
  pub good : weight_good least ≡ true
  pub negative : AtMost least no_weight
  pub light : Light t least
