-- The shortest path (paper 01: the cheapest reading). Assumes nothing: these are definitions.
use Rattle.std.specs.Prelude.{Bool, ◌&&◌, ◌||◌, not, cond, List, [], ◌∷◌, ℕ}
use Rattle.transducer.specs.Format.{Transducer}
use Rattle.transducer.specs.Path.{path_cost}
use Rattle.paths.specs.Count.{before, paths_from}
use Rattle.relax.specs.Size.{size_of, nearer}

-- Whether a path comes before another by cost, number of labels and number of arcs.
unfoldable pub nearer_path : Transducer → (p q : List ℕ) → Bool
nearer_path t p q = nearer (path_cost t p) (size_of t p) (path_cost t q) (size_of t q)

-- Whether a path is better than another: less cost, then fewer labels, then fewer arcs, then first in path order. No other definition compares paths.
unfoldable pub better : Transducer → (p q : List ℕ) → Bool
better t p q = nearer_path t p q || (not (nearer_path t q p) && before p q)

-- The best of a path and a run of others.
unfoldable pub best_of : Transducer → (p : List ℕ) → List (List ℕ) → List ℕ
best_of t p [] = p
best_of t p (q ∷ l) = best_of t (cond (better t q p) q p) l

unfoldable pub best : Transducer → List (List ℕ) → List ℕ
best t [] = []
best t (p ∷ l) = best_of t p l

-- The shortest path: the best of the accepting paths with at most as many arcs as there are states. None that is longer is better, unless a cycle below
-- zero lies on an accepting path.
unfoldable pub shortest : Transducer → List ℕ
shortest t = best t (paths_from t.states t t.start)
