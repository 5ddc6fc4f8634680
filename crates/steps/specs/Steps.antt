-- The states and steps of a composition, with the epsilon-sequencing filter (paper 01: the join). Assumes nothing: these are definitions.
use Rattle.std.specs.Prelude.{Bool, ◌&&◌, cond, List, [], ◌∷◌, ◌++◌, ℕ, eqb}
use Rattle.transducer.specs.declared.Arc.{Arc}
use Rattle.transducer.specs.Format.{Transducer, barred}
use Rattle.transducer.specs.Weight.{plus}
use Rattle.transducer.specs.Each.{each_arc, fits, passed}
use Rattle.explore.specs.Explore.{Step}
use Rattle.steps.specs.declared.State.{State}
use Rattle.steps.specs.declared.Origin.{Origin}
use Rattle.steps.specs.declared.Origin.TheVariants.{Left, Right, Both}

-- A composed state (paper 01: a triple) is the struct State: a left state, a right state and the filter state (paper 01: the mark).
unfoldable pub same_state : State → State → Bool
same_state x y = eqb x.left y.left && (eqb x.right y.right && eqb x.filter y.filter)

-- A step of the left alone, of the right alone, and of both: it writes what the right arc writes for the label that the left one writes, which is
-- the empty one where the right is alone.
unfoldable pub left_alone : State → (i : ℕ) → Arc → Step State Origin
left_alone x i a =
    record { target = record { left = a.target; right = x.right; filter = 0 }; input = a.input; output = 0; weight = a.weight; origin = Left i }

unfoldable pub right_alone : State → (j : ℕ) → Arc → Step State Origin
right_alone x j b =
    record { target = record { left = x.left; right = b.target; filter = 1 }; input = 0; output = passed 0 b; weight = b.weight; origin = Right j }

unfoldable pub both_step : (i : ℕ) → (a : Arc) → (j : ℕ) → (b : Arc) → Step State Origin
both_step i a j b =
    record {
      target = record { left = a.target; right = b.target; filter = 0 };
      input = a.input;
      output = passed a.output b;
      weight = plus a.weight b.weight;
      origin = Both i j;
    }

-- What comes of one arc of the left state: alone where it writes nothing and the filter allows it, else with each right arc that fits.
unfoldable pub left_steps : Transducer → State → (i : ℕ) → Arc → List (Step State Origin)
left_steps u x i a =
    cond (eqb a.output 0) (cond (eqb x.filter 0) (left_alone x i a ∷ []) [])
    (each_arc u x.right (λ j b. cond (fits u a.output b) (both_step i a j b ∷ []) []))

-- What comes of one arc of the right state by itself.
unfoldable pub right_steps : State → (j : ℕ) → Arc → List (Step State Origin)
right_steps x j b = cond (eqb b.input 0) (right_alone x j b ∷ []) []

-- The steps from a composed state, in order: those of each left arc, then the right arcs that read nothing.
unfoldable pub steps : Transducer → Transducer → State → List (Step State Origin)
steps t u x = each_arc t x.left (left_steps u x) ++ each_arc u x.right (right_steps x)

-- The first state.
unfoldable pub first_state : Transducer → Transducer → State
first_state t u = record { left = t.start; right = u.start; filter = 0 }

-- The origins of a step (paper 01): its left arc and its right arc, 65,535 where that side stood still.
unfoldable pub left_origin : Origin → ℕ
left_origin (Left i) = i
left_origin (Right j) = barred
left_origin (Both i j) = i

unfoldable pub right_origin : Origin → ℕ
right_origin (Left i) = barred
right_origin (Right j) = j
right_origin (Both i j) = j

unfoldable pub origin_pair : Origin → List ℕ
origin_pair o = left_origin o ∷ right_origin o ∷ []
