-- Restriction: only the arcs that pass a test, with states, start and finals as they are. Assumes nothing: these are definitions.
use Rattle.std.specs.Prelude.{Bool, List, ℕ}
use Rattle.transducer.specs.declared.Arc.{Arc}
use Rattle.transducer.specs.Format.{Transducer}
use Rattle.transducer.specs.Weight.{Weight, plus, at_most}
use Rattle.trim.specs.Passing.{passing, passing_numbers}
use Rattle.relax.specs.Tentative.{cost_at}

abbrev pub unchanged : Arc → Arc
unchanged a = a

unfoldable pub restricted : (test : Arc → Bool) → Transducer → Transducer
restricted test t = record { states = t.states; start = t.start; finals = t.finals; arcs = passing test unchanged t.arcs }

-- The arc that each arc of the restricted transducer comes from.
unfoldable pub origins_restricted : (test : Arc → Bool) → Transducer → List ℕ
origins_restricted test t = passing_numbers test 0 t.arcs

-- A test by stored costs: a cost of coming to the arc's source, its weight, and a cost of what is left from its target sum to at most a bound.
unfoldable pub within_bound : (coming rest : List Weight) → (most : Weight) → Arc → Bool
within_bound cs rs most a = at_most (plus (cost_at cs a.source) (plus a.weight (cost_at rs a.target))) most
