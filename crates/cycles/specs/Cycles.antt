-- Cycles below zero (paper 02: rings that sum below zero). Assumes nothing: these are definitions.
use Rattle.std.specs.Prelude.{◌≡◌, Bool, true, false, ◌&&◌, ◌||◌, List, [], ◌∷◌, ℕ, zero, suc, eqb}
use Rattle.transducer.specs.declared.Arc.{Arc}
use Rattle.transducer.specs.Format.{Transducer}
use Rattle.transducer.specs.Path.{is_final, runs, ends, arcs_cost}
use Rattle.transducer.specs.Weight.{Weight, no_weight, plus, Below, below}
use Rattle.reach.specs.Reach.{accessible, coaccessible}

-- A path from one state to another.
pub record Leads (t : Transducer) (s u : ℕ) (p : List ℕ) : Type 0 where
  pub goes : runs t s p ≡ true
  pub there : ends t s p ≡ u

-- A cycle below zero, wherever it lies.
pub record NegativeCycle (t : Transducer) : Type 0 where
  pub state : ℕ
  pub cycle : List ℕ
  pub around : Leads t state state cycle
  pub sum : Below (arcs_cost t cycle) no_weight

-- A cycle below zero on an accepting path from a state: the path up to the cycle, the cycle, and the rest of the path.
pub record NegativeCycleFrom (t : Transducer) (s : ℕ) : Type 0 where
  pub lead : List ℕ
  pub cycle : List ℕ
  pub rest : List ℕ
  pub there : runs t s lead ≡ true
  pub around : runs t (ends t s lead) cycle ≡ true
  pub back : ends t (ends t s lead) cycle ≡ ends t s lead
  pub on : runs t (ends t s lead) rest ≡ true
  pub final : is_final t.finals (ends t (ends t s lead) rest) ≡ true
  pub sum : Below (arcs_cost t cycle) no_weight

-- Whether some arc of a run leaves a state and has a property.
unfoldable pub some_leaving : List Arc → (s : ℕ) → (Arc → Bool) → Bool
some_leaving [] s f = false
some_leaving (a ∷ as') s f = (eqb a.source s && f a) || some_leaving as' s f

-- Whether a cost and some path of at most so many arcs from a state to another sum below zero.
unfoldable pub negative_run : (most : ℕ) → Transducer → (s to : ℕ) → (cost : Weight) → Bool
negative_run zero t s to x = eqb s to && below x no_weight
negative_run (suc most) t s to x =
    (eqb s to && below x no_weight) || some_leaving t.arcs s (λ a. negative_run most t a.target to (plus x a.weight))

-- Whether a cycle at a state sums below zero. A cycle that visits a state twice is two, and one of them sums below zero where both together do, so as
-- many arcs as states are enough.
unfoldable pub negative_cycle_at : Transducer → (s : ℕ) → Bool
negative_cycle_at t s = negative_run t.states t s s no_weight

-- Whether some number below n has a property.
unfoldable pub some_below : (n : ℕ) → (ℕ → Bool) → Bool
some_below zero f = false
some_below (suc n) f = f n || some_below n f

-- 19, by which states count: whether a cycle below zero passes one of them and a final state can be reached from it.
unfoldable pub negative_cycle_among : Transducer → (counts : ℕ → Bool) → Bool
negative_cycle_among t counts =
    some_below t.states (λ s. counts s && (coaccessible t.states t s && negative_cycle_at t s))

-- The shortest path: those count that the start reaches, so that the cycle lies on an accepting path.
unfoldable pub negative_cycle : Transducer → Bool
negative_cycle t = negative_cycle_among t (accessible t.states t)

-- Costs to come: all count.
abbrev pub anywhere : (s : ℕ) → Bool
anywhere s = true

unfoldable pub negative_cycle_anywhere : Transducer → Bool
negative_cycle_anywhere t = negative_cycle_among t anywhere

-- The same in words: the state that counts, and the cycle on an accepting path from there.
pub record SomeNegativeCycle (t : Transducer) (counts : ℕ → Bool) : Type 0 where
  pub state : ℕ
  pub marked : counts state ≡ true
  pub negative_cycle : NegativeCycleFrom t state
