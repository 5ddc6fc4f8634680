-- The path along the first tight arcs: those that give their sources' cost and size. Assumes nothing: these are definitions.
use Rattle.std.specs.Prelude.{◌≡◌, Bool, not, cond, List, [], ◌∷◌, ℕ, zero, suc, ◌+◌, ◌-◌, ◌≤◌, ◌<◌, length}
use Rattle.transducer.specs.Format.{Transducer}
use Rattle.transducer.specs.Path.{arc}
use Rattle.transducer.specs.Weight.{Weight}
use Rattle.transducer.specs.Accepted.{arcs_below}
use Rattle.relax.specs.Size.{Size, nearer}
use Rattle.relax.specs.Tentative.{cost_by, size_by}

-- An arc that begins a path of the least cost, the fewest labels and the fewest arcs from its source.
pub record Tight (t : Transducer) (c : ℕ → Weight) (l : ℕ → Size) (i : ℕ) : Type 0 where
  pub below : i < length t.arcs
  pub costs : cost_by t c i ≡ c (arc t i).source
  pub size : size_by t l i ≡ l (arc t i).source

-- A state's first tight arc, where one is at hand.
pub record First (t : Transducer) (c : ℕ → Weight) (l : ℕ → Size) (v i : ℕ) : Type 0 where
  pub leaves : (arc t v).source ≡ (arc t i).source
  pub tight : Tight t c l v
  pub first : v ≤ i

-- Whether an arc gives a state's cost and size: these do not come before those by way of the arc.
unfoldable pub gives : Transducer → (c : ℕ → Weight) → (l : ℕ → Size) → (s i : ℕ) → Bool
gives t c l s i = not (nearer (c s) (l s) (cost_by t c i) (size_by t l i))

-- The first of so many arcs from one on that gives them, or the arc behind these where none does.
unfoldable pub first_giving : (arcs : ℕ) → Transducer → (c : ℕ → Weight) → (l : ℕ → Size) → (s i : ℕ) → ℕ
first_giving zero t c l s i = i
first_giving (suc n) t c l s i = cond (gives t c l s i) i (first_giving n t c l s (suc i))

-- A state's first tight arc.
unfoldable pub first_tight : Transducer → (c : ℕ → Weight) → (l : ℕ → Size) → (s : ℕ) → ℕ
first_tight t c l s =
    first_giving (arcs_below (s + 1) t.arcs - arcs_below s t.arcs) t c l s (arcs_below s t.arcs)

-- The arcs of state `s` begin at arc `from` and end at or before `to`, which is at most the number of arcs.
pub record HasArcs (t : Transducer) (s from to : ℕ) : Type 0 where
  pub from_is : from ≡ arcs_below s t.arcs
  pub to_high : arcs_below (s + 1) t.arcs ≤ to
  pub to_inside : to ≤ length t.arcs

-- The path of so many arcs from a state along the first arcs.
unfoldable pub follow : (arcs : ℕ) → Transducer → (first_arcs : ℕ → ℕ) → (s : ℕ) → List ℕ
follow zero t v s = []
follow (suc n) t v s = v s ∷ follow n t v (arc t (v s)).target
