-- Trimming: the states and arcs that lie on an accepting path, in their order, renumbered. Assumes nothing: these are definitions.
use Rattle.std.specs.Prelude.{◌≡◌, Bool, true, ◌&&◌, cond, List, [], ◌∷◌, map, ℕ, zero, suc, ◌+◌, ◌<◌, get_or}
use Rattle.transducer.specs.declared.Arc.{Arc}
use Rattle.transducer.specs.declared.Final.{Final}
use Rattle.transducer.specs.Format.{Transducer}
use Rattle.reach.specs.Reach.{accessible, coaccessible}
use Rattle.trim.specs.Passing.{passing, passing_numbers}

-- Whether a state lies on an accepting path: it is accessible and coaccessible.
unfoldable pub useful : Transducer → (s : ℕ) → Bool
useful t s = accessible t.states t s && coaccessible t.states t s

-- A transducer is trim where each state lies on an accepting path.
abbrev pub Trim : Transducer → Type 0
Trim t = (s : ℕ) → s < t.states → useful t s ≡ true

unfoldable pub arc_useful : Transducer → Arc → Bool
arc_useful t a = useful t a.source && useful t a.target

-- The new number of a state: how many useful states come before it.
unfoldable pub renumbered : Transducer → (s : ℕ) → ℕ
renumbered t zero = 0
renumbered t (suc s) = renumbered t s + cond (useful t s) 1 0

-- An arc between the new numbers of its states.
unfoldable pub moved : Transducer → Arc → Arc
moved t a = record { source = renumbered t a.source; input = a.input; output = a.output; target = renumbered t a.target; weight = a.weight }

-- The arcs that are kept, and their numbers, the first of the list having the number i.
abbrev pub kept_arcs : Transducer → List Arc → List Arc
kept_arcs t l = passing (arc_useful t) (moved t) l

abbrev pub kept_numbers : Transducer → (i : ℕ) → List Arc → List ℕ
kept_numbers t i l = passing_numbers (arc_useful t) i l

unfoldable pub kept_finals : Transducer → List Final → List Final
kept_finals t [] = []
kept_finals t (f ∷ fs) =
    cond (useful t f.state) (record { state = renumbered t f.state; weight = f.weight } ∷ kept_finals t fs) (kept_finals t fs)

-- Where nothing accepts, the start alone remains.
unfoldable pub trimmed : Transducer → Transducer
trimmed t =
    cond (useful t t.start)
    (record { states = renumbered t t.states; start = renumbered t t.start; finals = kept_finals t t.finals; arcs = kept_arcs t t.arcs })
    (record { states = 1; start = 0; finals = []; arcs = [] })

-- The arc that each arc of the trimmed transducer comes from.
unfoldable pub origins_kept : Transducer → List ℕ
origins_kept t = cond (useful t t.start) (kept_numbers t 0 t.arcs) []

-- Where a path leads by origins: the arcs that its arcs come from.
unfoldable pub through : (origins path : List ℕ) → List ℕ
through origins p = map (λ i. get_or origins i 0) p
