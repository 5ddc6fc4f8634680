-- The accepting paths of what is built: the trails from the first state to a final one. Assumes nothing.
use mathlib.Core.Path.{◌≡◌, sym, ◌∙◌}
use mathlib.Core.Bool.{Bool, true}
use mathlib.Core.List.{List}
use Prim.Native.Nat.{ℕ, ◌≤◌, ◌<◌}
use lib.ListN.{length, get_or}
use Rattle.wire.proofs.Bool.{and-true}
use Rattle.transducer.specs.Format.{max_states, Transducer}
use Rattle.transducer.specs.Path.{runs, ends, accepts, is_final, read_by, written_by, arcs_cost, path_cost}
use Rattle.transducer.specs.Weight.{plus, Weight}
use Rattle.explore.specs.Explore.{Step, Decides, Built, built}
use Rattle.explore.proofs.Parts.{built_start, built_some, built_first, built_final, built_final_weight}
use Rattle.explore.proofs.Trails.{
  Trail,
  inputs,
  outputs,
  weights,
  along,
  Once,
  read_along,
  written_along,
  cost_along,
  along_once,
  path_trail,
  trail_path,
}

-- The steps of ss lead from the first state to y, and y is final.
pub record Accepting {A O : Type 0} (steps : A → List (Step A O)) (final : A → Bool) (first : A) (ss : List (Step A O)) (y : A) : Type 0 where
  pub trail : Trail steps first ss y
  pub final_end : final y ≡ true

module _ {A O : Type 0} (same : A → A → Bool) (steps : A → List (Step A O)) (final : A → Bool) (weight : A → Weight) (first : A) where
  abbrev b : Built A O
  b = built same steps final weight first

  pub accepts_runs : (p : List ℕ) → accepts b.result p ≡ true → (runs b.result 0 p ≡ true) × (is_final b.result.finals (ends b.result 0 p) ≡ true)
  unfolding accepts
  accepts_runs p h =
      let z : Transducer = b.result in
      rw (built_start same steps final weight first) at (and-true (runs z z.start p) (is_final z.finals (ends z z.start p)) h)

  pub runs_accepts : (p : List ℕ) → runs b.result 0 p ≡ true → is_final b.result.finals (ends b.result 0 p) ≡ true → accepts b.result p ≡ true
  unfolding accepts
  runs_accepts p h f = rw (built_start same steps final weight first, h, f)

  module _ (d : Step A O) where
    pub accepts_read : (p : List ℕ) → accepts b.result p ≡ true → read_by b.result p ≡ inputs (along b d p)
    accepts_read p h = read_along same steps final weight first d 0 p (accepts_runs p h).0

    pub accepts_written : (p : List ℕ) → accepts b.result p ≡ true → written_by b.result p ≡ outputs (along b d p)
    accepts_written p h = written_along same steps final weight first d 0 p (accepts_runs p h).0

    -- Accepting paths with the same steps are the same, where no step stands twice.
    pub accepts_once : Once steps → (p q : List ℕ) → accepts b.result p ≡ true → accepts b.result q ≡ true → along b d p ≡ along b d q → p ≡ q
    accepts_once once p q h k e = along_once same steps final weight first d once 0 p q (accepts_runs p h).0 (accepts_runs q k).0 e

    module _ (right : Decides same) (few : length b.states ≤ max_states) where
      cost : (p : List ℕ) → runs b.result 0 p ≡ true → ends b.result 0 p < length b.states
          → final (get_or b.states (ends b.result 0 p) first) ≡ true
          → path_cost b.result p ≡ plus (weights (along b d p)) (weight (get_or b.states (ends b.result 0 p) first))
      unfolding path_cost
      cost p h l f =
          let arcs : arcs_cost b.result p ≡ weights (along b d p) = cost_along same steps final weight first d 0 p h in
          rw (built_start same steps final weight first, arcs, built_final_weight same steps final weight first (ends b.result 0 p) l f)

      pub accepts_trail : (p : List ℕ) → accepts b.result p ≡ true
          → (y : A) × Accepting steps final first (along b d p) y × (path_cost b.result p ≡ plus (weights (along b d p)) (weight y))
      accepts_trail p h =
          let runs_on = accepts_runs p h in
          let t = path_trail same steps final weight first d right few 0 p (built_some same steps final weight first) runs_on.0 in
          let y : A = get_or b.states (ends b.result 0 p) first in
          let f : final y ≡ true = sym (built_final same steps final weight first (ends b.result 0 p) t.0) ∙ runs_on.1 in
          (y, record { trail = rw (built_first same steps final weight first) at t.1; final_end = f }, cost p runs_on.0 t.0 f)

      pub trail_accepts : (ss : List (Step A O)) (y : A) → Accepting steps final first ss y
          → (p : List ℕ) × (accepts b.result p ≡ true) × (along b d p ≡ ss) × (path_cost b.result p ≡ plus (weights ss) (weight y))
      trail_accepts ss y a =
          let start : 0 < length b.states = built_some same steps final weight first in
          let r = trail_path same steps final weight first d right few 0 ss y start (rw (built_first same steps final weight first) a.trail) in
          let p : List ℕ = r.0 in
          let l : ends b.result 0 p < length b.states = (path_trail same steps final weight first d right few 0 p start r.1).0 in
          let f : final (get_or b.states (ends b.result 0 p) first) ≡ true = rw r.3 a.final_end in
          let stop : is_final b.result.finals (ends b.result 0 p) ≡ true =
          built_final same steps final weight first (ends b.result 0 p) l ∙ f in
          (p, runs_accepts p r.1 stop, r.2, rw (r.2, r.3) at (cost p r.1 l f))
