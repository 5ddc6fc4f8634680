-- The states that paths reach: accessible ones from the start, coaccessible ones before a final state. Assumes nothing: these are definitions.
use Rattle.std.specs.Prelude.{◌≡◌, Bool, true, false, ◌&&◌, ◌||◌, List, [], ◌∷◌, ℕ, zero, suc, ◌<◌, eqb}
use Rattle.transducer.specs.declared.Arc.{Arc}
use Rattle.transducer.specs.Format.{Transducer}
use Rattle.transducer.specs.Path.{is_final}

-- Whether some arc of a run enters a state from one with a property, or leaves it for one with a property.
unfoldable pub entered : List Arc → (s : ℕ) → (ℕ → Bool) → Bool
entered [] s f = false
entered (a ∷ as') s f = (eqb a.target s && f a.source) || entered as' s f

unfoldable pub some_arc : List Arc → (s : ℕ) → (ℕ → Bool) → Bool
some_arc [] s f = false
some_arc (a ∷ as') s f = (eqb a.source s && f a.target) || some_arc as' s f

-- Whether a path of at most so many arcs leads from the start to a state, or from a state to a final one. A path need not visit a state twice, so
-- as many arcs as states are enough.
unfoldable pub accessible : (most : ℕ) → Transducer → (s : ℕ) → Bool
accessible zero t s = eqb s t.start
accessible (suc most) t s = eqb s t.start || entered t.arcs s (accessible most t)

unfoldable pub coaccessible : (most : ℕ) → Transducer → (s : ℕ) → Bool
coaccessible zero t s = is_final t.finals s
coaccessible (suc most) t s = is_final t.finals s || some_arc t.arcs s (coaccessible most t)

-- Each state is accessible.
abbrev pub AllAccessible : Transducer → Type 0
AllAccessible t = (s : ℕ) → s < t.states → accessible t.states t s ≡ true
