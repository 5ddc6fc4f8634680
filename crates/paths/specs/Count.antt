-- The accepting paths of a transducer in path order, how many there are, and whether they are infinitely many.
-- Assumes nothing: these are definitions.
use Rattle.std.specs.Prelude.{Bool, true, false, ◌&&◌, ◌||◌, cond, List, [], ◌∷◌, ◌++◌, map, ℕ, zero, suc, min, ltb, eqb, length, get_or}
use Rattle.transducer.specs.Format.{Transducer, max_count}
use Rattle.transducer.specs.Path.{is_final}
use Rattle.transducer.specs.Each.{each_arc}
use Rattle.reach.specs.Reach.{some_arc, coaccessible}

-- Path order: arc numbers compared from the front, a path before its extensions.
unfoldable pub before : (p q : List ℕ) → Bool
before p [] = false
before [] (j ∷ q) = true
before (i ∷ p) (j ∷ q) = ltb i j || (eqb i j && before p q)

-- The accepting paths from a state that have at most so many arcs, in path order.
unfoldable pub paths_from : (most : ℕ) → Transducer → (s : ℕ) → List (List ℕ)
paths_from zero t s = cond (is_final t.finals s) ([] ∷ []) []
paths_from (suc most) t s =
    cond (is_final t.finals s) ([] ∷ []) []
    ++ each_arc t s (λ i a. map (λ p. i ∷ p) (paths_from most t a.target))

-- All accepting paths, where they are not infinitely many: none of them has as many arcs as there are states.
unfoldable pub paths : Transducer → List (List ℕ)
paths t = paths_from t.states t t.start

-- Whether so many arcs lead from a state to one from which a final state can be reached.
unfoldable pub goes_on : (arcs : ℕ) → Transducer → (s : ℕ) → Bool
goes_on zero t s = coaccessible t.states t s
goes_on (suc n) t s = some_arc t.arcs s (goes_on n t)

-- Infinitely many accepting paths (paper 01: endless): some accepting path has at least as many arcs as there are states.
unfoldable pub endless : Transducer → Bool
endless t = goes_on t.states t t.start

-- The path count: 99 stands for 99 or more.
abbrev pub most_counted : ℕ
most_counted = max_count

unfoldable pub path_count : Transducer → ℕ
path_count t = min most_counted (length (paths t))

-- The k-th path (paper 01: reading k).
unfoldable pub nth_path : Transducer → (k : ℕ) → List ℕ
nth_path t k = get_or (paths t) k []
