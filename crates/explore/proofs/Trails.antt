-- Trails: runs of steps from state to state. The paths of what is built are the trails of its steps. Assumes nothing.
use mathlib.Core.Path.{◌≡◌, refl, sym, ap, ◌∙◌}
use mathlib.Core.Bool.{Bool, true}
use mathlib.Core.List.{List, [], ◌∷◌, map, head-eq_of_cons-eq, tail-eq_of_cons-eq, nil≢cons, cons≢nil}
use Prim.Native.Nat.{ℕ, ◌+◌, ◌≤◌, ◌<◌}
use native.Mathlib.Omega.{arith}
use lib.ListN.{length, get_or}
use Rattle.transducer.specs.Format.{max_states}
use Rattle.transducer.specs.declared.Arc.{Arc}
use Rattle.transducer.specs.Path.{arc, runs, ends, non_empty, read_by, written_by, arcs_cost}
use Rattle.transducer.specs.Weight.{no_weight, plus, Weight}
use Rattle.transducer.proofs.Paths.{Runs, runs_cons, cons_runs}
use Rattle.explore.specs.Explore.{Step, Decides, Built, built}
use Rattle.explore.proofs.Member.{At, Mem, at_get_or, get_d_at}
use Rattle.explore.proofs.Arcs.{before}
use Rattle.explore.proofs.Parts.{length_steps}
use Rattle.explore.proofs.OneArc.{ByStep, step_arc, arc_step, arc_lands}

-- The steps of ss lead from x to y.
abbrev pub Trail : {A O : Type 0} → (steps : A → List (Step A O)) → (x : A) → (ss : List (Step A O)) → (y : A) → Type 0
Trail steps x [] y = x ≡ y
Trail steps x (s ∷ ss) y = Mem s (steps x) × Trail steps s.target ss y

-- What a trail reads, writes and costs.
unfoldable pub inputs : {A O : Type 0} → List (Step A O) → List ℕ
inputs [] = []
inputs (s ∷ ss) = non_empty s.input (inputs ss)

unfoldable pub outputs : {A O : Type 0} → List (Step A O) → List ℕ
outputs [] = []
outputs (s ∷ ss) = non_empty s.output (outputs ss)

unfoldable pub weights : {A O : Type 0} → List (Step A O) → Weight
weights [] = no_weight
weights (s ∷ ss) = plus s.weight (weights ss)

-- The steps of a path's arcs; d is any step.
abbrev pub along : {A O : Type 0} → Built A O → (d : Step A O) → (path : List ℕ) → List (Step A O)
along b d p = map (λ j. get_or b.steps j d) p

-- No step stands twice among the steps of a state.
abbrev pub Once : {A O : Type 0} → (steps : A → List (Step A O)) → Type 0
Once {A} {O} steps = (x : A) (k l : ℕ) (s : Step A O) → At (steps x) k s → At (steps x) l s → k ≡ l

module _ {A O : Type 0} (same : A → A → Bool) (steps : A → List (Step A O)) (final : A → Bool) (weight : A → Weight) (first : A) (d : Step A O) where
  abbrev b : Built A O
  b = built same steps final weight first

  -- The first arc of a path, by its step.
  first_step : (i j : ℕ) (p : List ℕ) → Runs b.result i j p → (nth : ℕ) × ByStep same steps first b i j nth (get_or b.steps j d)
  first_step i j p f =
      arc_step same steps final weight first i j (get_or b.steps j d) f.leaves
      (get_d_at b.steps j d (omega (arith, f.below, length_steps same steps final weight first)))

  -- A path reads, writes and costs what its trail does.
  pub read_along : (i : ℕ) (p : List ℕ) → runs b.result i p ≡ true → read_by b.result p ≡ inputs (along b d p)
  unfolding read_by inputs
  read_along i [] h = refl
  read_along i (j ∷ p) h =
      let f = runs_cons b.result i j p h in
      let e : (arc b.result j).input ≡ (get_or b.steps j d).input = ap (λ (a : Arc). a.input) (first_step i j p f).1.arc_is in
      rw (e, read_along (arc b.result j).target p f.rest)

  pub written_along : (i : ℕ) (p : List ℕ) → runs b.result i p ≡ true → written_by b.result p ≡ outputs (along b d p)
  unfolding written_by outputs
  written_along i [] h = refl
  written_along i (j ∷ p) h =
      let f = runs_cons b.result i j p h in
      let e : (arc b.result j).output ≡ (get_or b.steps j d).output = ap (λ (a : Arc). a.output) (first_step i j p f).1.arc_is in
      rw (e, written_along (arc b.result j).target p f.rest)

  pub cost_along : (i : ℕ) (p : List ℕ) → runs b.result i p ≡ true → arcs_cost b.result p ≡ weights (along b d p)
  unfolding arcs_cost weights
  cost_along i [] h = refl
  cost_along i (j ∷ p) h =
      let f = runs_cons b.result i j p h in
      let e : (arc b.result j).weight ≡ (get_or b.steps j d).weight = ap (λ (a : Arc). a.weight) (first_step i j p f).1.arc_is in
      rw (e, cost_along (arc b.result j).target p f.rest)

  -- Paths from one state with the same steps are the same, where no step stands twice.
  pub along_once : Once steps → (i : ℕ) (p q : List ℕ) → runs b.result i p ≡ true → runs b.result i q ≡ true → along b d p ≡ along b d q
      → p ≡ q
  along_once once i [] [] h k e = refl
  along_once once i [] (j ∷ q) h k e = absurd (nil≢cons e)
  along_once once i (j ∷ p) [] h k e = absurd (cons≢nil e)
  along_once once i (j ∷ p) (l ∷ q) h k e =
      let f = runs_cons b.result i j p h in
      let g = runs_cons b.result i l q k in
      let s : Step A O = get_or b.steps j d in
      let head : get_or b.steps l d ≡ s = sym (head-eq_of_cons-eq e) in
      let r = first_step i j p f in
      let u = first_step i l q g in
      let there : At (steps (get_or b.states i first)) u.0 s = rw head at u.1.step_at in
      let nth : r.0 ≡ u.0 = once (get_or b.states i first) r.0 u.0 s r.1.step_at there in
      let same_arc : j ≡ l = r.1.number ∙ ap (λ (n : ℕ). before steps b.states i + n) nth ∙ sym u.1.number in
      rw (same_arc, along_once once (arc b.result j).target p q f.rest (rw same_arc g.rest) (tail-eq_of_cons-eq e))

  module _ (right : Decides same) (few : length b.states ≤ max_states) where
    pub path_trail : (i : ℕ) (p : List ℕ) → i < length b.states → runs b.result i p ≡ true → (ends b.result i p < length b.states)
        × Trail steps (get_or b.states i first) (along b d p) (get_or b.states (ends b.result i p) first)
    unfolding ends
    path_trail i [] l h = (l, refl)
    path_trail i (j ∷ p) l h =
        let f = runs_cons b.result i j p h in
        let r = first_step i j p f in
        let lands = arc_lands same steps final weight first right few i j r.0 (get_or b.steps j d) l r.1 in
        let more = path_trail (arc b.result j).target p lands.0 f.rest in
        (more.0, (record { number = r.0; stands = r.1.step_at }, rw lands.1 at more.1))

    pub trail_path : (i : ℕ) (ss : List (Step A O)) (y : A) → i < length b.states → Trail steps (get_or b.states i first) ss y
        → (p : List ℕ) × (runs b.result i p ≡ true) × (along b d p ≡ ss) × (get_or b.states (ends b.result i p) first ≡ y)
    unfolding runs ends
    trail_path i [] y l t = ([], refl, refl, t)
    trail_path i (s ∷ ss) y l t =
        let nth : ℕ = t.0.number in
        let j : ℕ = before steps b.states i + nth in
        let r : ByStep same steps first b i j nth s = step_arc same steps final weight first i nth s l t.0.stands in
        let lands = arc_lands same steps final weight first right few i j nth s l r in
        let more = trail_path (arc b.result j).target ss y lands.0 (rw lands.1 t.1) in
        let leaves : (arc b.result j).source ≡ i = ap (λ (a : Arc). a.source) r.arc_is in
        let step : get_or b.steps j d ≡ s = at_get_or b.steps j s d r.step_is in (
          j ∷ more.0,
          cons_runs b.result i j more.0 (record { below = r.below; leaves = leaves; rest = more.1 }),
          rw (step, more.2),
          more.3,
        )
