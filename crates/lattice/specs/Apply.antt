-- Applying an input string (paper 01: a code) to a transducer. Assumes nothing: these are definitions.
use Rattle.std.specs.Prelude.{Bool, ◌&&◌, cond, List, [], ◌∷◌, ℕ, ◌+◌, ltb, leb, eqb, length, get_or}
use Rattle.wire.specs.Bytes.{every}
use Rattle.transducer.specs.declared.Arc.{Arc}
use Rattle.transducer.specs.Format.{Transducer, barred, max_symbols}
use Rattle.transducer.specs.Path.{is_final, final_weight}
use Rattle.transducer.specs.Each.{each_arc, fits, passed}
use Rattle.explore.specs.Explore.{Step, Built, built}
use Rattle.lattice.specs.declared.State.{State}

-- 9: at most 64 symbols, none of them empty or barred
unfoldable pub string_good : List ℕ → Bool
string_good cs = leb (length cs) max_symbols && every (λ c. leb 1 c && ltb c barred) cs

unfoldable pub same_state : State → State → Bool
same_state x y = eqb x.position y.position && eqb x.state y.state

-- A step by an arc to a position, writing a label. Its origin is the arc's number.
unfoldable pub step : (position input output : ℕ) → (i : ℕ) → Arc → Step State ℕ
step position input output i a =
    record { target = record { position = position; state = a.target }; input = input; output = output; weight = a.weight; origin = i }

-- What comes of one arc: an empty input keeps the position, an input that fits the symbol at the position moves one on. The step bears what is read,
-- and what the arc writes for it.
unfoldable pub arc_steps : (string : List ℕ) → Transducer → State → (i : ℕ) → Arc → List (Step State ℕ)
arc_steps cs t x i a =
    let symbol = get_or cs x.position 0 in
    cond (eqb a.input 0) (step x.position 0 (passed 0 a) i a ∷ [])
    (cond (ltb x.position (length cs) && fits t symbol a) (step (x.position + 1) symbol (passed symbol a) i a ∷ []) [])

-- The steps from a lattice state, in order.
unfoldable pub steps : (string : List ℕ) → Transducer → State → List (Step State ℕ)
steps cs t x = each_arc t x.state (arc_steps cs t x)

unfoldable pub final_state : (string : List ℕ) → Transducer → State → Bool
final_state cs t x = eqb x.position (length cs) && is_final t.finals x.state

abbrev pub first_state : Transducer → State
first_state t = record { position = 0; state = t.start }

-- The lattice before trimming.
unfoldable pub applied : (string : List ℕ) → Transducer → Built State ℕ
applied cs t = built same_state (steps cs t) (final_state cs t) (λ x. final_weight t.finals x.state) (first_state t)
