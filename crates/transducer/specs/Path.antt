-- Paths: what a path is, and what it accepts, reads, writes and costs. Assumes nothing: these are definitions.
use Rattle.std.specs.Prelude.{ℕ, Bool, true, false, cond, ◌&&◌, ◌||◌, List, [], ◌∷◌, length, ◌==◌, nat_lt, slice_index_or}
use Rattle.transducer.specs.declared.Arc.{Arc}
use Rattle.transducer.specs.declared.Final.{Final}
use Rattle.transducer.specs.Format.{Transducer}
use Rattle.transducer.specs.Weight.{Weight, no_weight, plus}

-- Whether a state is final, and its final weight (0 where it is not).
unfoldable pub is_final : List Final → (s : ℕ) → Bool
is_final [] s = false
is_final (f ∷ fs) s = f.state == s || is_final fs s

unfoldable pub final_weight : List Final → (s : ℕ) → Weight
final_weight [] s = no_weight
final_weight (f ∷ fs) s = cond (f.state == s) f.weight (final_weight fs s)

abbrev pub no_arc : Arc
no_arc = record { source = 0; input = 0; output = 0; target = 0; weight = no_weight }

-- The arc of a number.
unfoldable pub arc : Transducer → (i : ℕ) → Arc
arc t i = slice_index_or t.arcs i no_arc

-- Whether a run of arc numbers is a path from a state.
unfoldable pub runs : Transducer → (s : ℕ) → (path : List ℕ) → Bool
runs t s [] = true
runs t s (i ∷ is) = (nat_lt i (length t.arcs) && (arc t i).source == s) && runs t (arc t i).target is

-- The state where a path from a state ends.
unfoldable pub ends : Transducer → (s : ℕ) → (path : List ℕ) → ℕ
ends t s [] = s
ends t s (i ∷ is) = ends t (arc t i).target is

-- Whether a path from the start ends in a final state.
unfoldable pub accepts : Transducer → (path : List ℕ) → Bool
accepts t p = runs t t.start p && is_final t.finals (ends t t.start p)

-- A label in front of a string; 0, the empty label (epsilon), is passed over.
unfoldable pub non_empty : (label : ℕ) → List ℕ → List ℕ
non_empty x xs = cond (x == 0) xs (x ∷ xs)

-- The input string that a path reads and the output string that it writes.
unfoldable pub read_by : Transducer → (path : List ℕ) → List ℕ
read_by t [] = []
read_by t (i ∷ is) = non_empty (arc t i).input (read_by t is)

unfoldable pub written_by : Transducer → (path : List ℕ) → List ℕ
written_by t [] = []
written_by t (i ∷ is) = non_empty (arc t i).output (written_by t is)

-- A path's cost: its arcs, and the final weight of the state where it ends.
unfoldable pub arcs_cost : Transducer → (path : List ℕ) → Weight
arcs_cost t [] = no_weight
arcs_cost t (i ∷ is) = plus (arc t i).weight (arcs_cost t is)

unfoldable pub path_cost : Transducer → (path : List ℕ) → Weight
path_cost t p = plus (arcs_cost t p) (final_weight t.finals (ends t t.start p))
