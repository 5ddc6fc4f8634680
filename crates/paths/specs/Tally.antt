-- The capped count of the accepting paths from a state, made from the counts of the states where its arcs lead.
-- Assumes nothing: these are definitions.
use Rattle.std.specs.Prelude.{cond, List, [], ◌∷◌, ℕ, zero, suc, eqb}
use Rattle.transducer.specs.declared.Arc.{Arc}
use Rattle.transducer.specs.Format.{Transducer}
use Rattle.transducer.specs.Path.{is_final}
use Rattle.capped.specs.Capped.{add}

-- The count of the empty path: 1 from a final state.
unfoldable pub own : Transducer → (s : ℕ) → ℕ
own t s = cond (is_final t.finals s) 1 0

-- A count to which that of the target is added for each of a run of arcs that leaves a state, in order.
unfoldable pub add_arcs : List Arc → (s : ℕ) → (count : ℕ → ℕ) → (sum : ℕ) → ℕ
add_arcs [] s c x = x
add_arcs (a ∷ as') s c x = add_arcs as' s c (cond (eqb a.source s) (add x (c a.target)) x)

-- The count of a state by the counts of where its arcs lead.
unfoldable pub add_all : Transducer → (count : ℕ → ℕ) → (s : ℕ) → ℕ
add_all t c s = add_arcs t.arcs s c (own t s)

-- The count of the accepting paths from a state that have at most so many arcs.
unfoldable pub tally : (most : ℕ) → Transducer → (s : ℕ) → ℕ
tally zero t s = own t s
tally (suc most) t s = add_all t (tally most t) s
