-- `coaccessible` and `goes_on` in terms of accepting paths. Assumes nothing.
use mathlib.Core.Path.{◌≡◌}
use mathlib.Core.Bool.{true, false}
use mathlib.Core.Logic.{◌↔◌}
use mathlib.Core.List.{List, [], ◌∷◌}
use Prim.Native.Nat.{ℕ, zero, suc, ◌≤◌, ◌<◌}
use native.Mathlib.Nat.{not-suc-le-zero, le_of_suc-le-suc}
use native.Mathlib.Omega.{arith}
use lib.ListN.{length}
use Rattle.wire.proofs.Bool.{clash}
use Rattle.transducer.specs.Format.{Transducer}
use Rattle.transducer.specs.Path.{arc}
use Rattle.transducer.proofs.Runs.{Accepting, AcceptingBy, accepting_cons, cons_accepting, Within}
use Rattle.reach.specs.Reach.{coaccessible}
use Rattle.reach.proofs.Reach.{some_arc_at, at_some_arc, coaccessible_path, path_coaccessible}
use Rattle.paths.specs.Count.{goes_on}

-- Nothing accepts from a dead state.
pub dead_none : (t : Transducer) → Within t → (s : ℕ) → coaccessible t.states t s ≡ false → (p : List ℕ) → Accepting t s p → ⊥
dead_none t w s h p a = clash (path_coaccessible t w s p a) h

-- goes_on

pub goes_on_path : (k : ℕ) (t : Transducer) (s : ℕ) → goes_on k t s ≡ true → (p : List ℕ) × Accepting t s p × (k ≤ length p)
unfolding goes_on arc
goes_on_path zero t s h = let p = coaccessible_path t.states t s h in (p.0, p.1, omega arith)
goes_on_path (suc k) t s h =
    let r = some_arc_at t.arcs s (goes_on k t) h in
    let p = goes_on_path k t (arc t r.place).target r.for in
    let long : k ≤ length p.0 = p.2 in
    (r.place ∷ p.0, cons_accepting t s r.place p.0 (record { below = r.below; leaves = r.leaves; rest = p.1 }), omega arith)

pub path_goes_on : (k : ℕ) (t : Transducer) → Within t → (s : ℕ) (p : List ℕ) → s < t.states → Accepting t s p → k ≤ length p → goes_on k t s ≡ true
unfolding goes_on arc
path_goes_on zero t w s p b a l = path_coaccessible t w s p a
path_goes_on (suc k) t w s [] b a l = absurd (not-suc-le-zero l)
path_goes_on (suc k) t w s (i ∷ p) b a l =
    let r : AcceptingBy t s i p = accepting_cons t s i p a in
    at_some_arc t.arcs s (goes_on k t) i r.below r.leaves
    (path_goes_on k t w (arc t i).target p (w.arrives i r.below) r.rest (le_of_suc-le-suc l))

-- Some accepting path from a state has at least so many arcs.
pub goes_on_some : (k : ℕ) (t : Transducer) → Within t → (s : ℕ) → s < t.states
    → (goes_on k t s ≡ true) ↔ ((p : List ℕ) × Accepting t s p × (k ≤ length p))
goes_on_some k t w s b = (λ h. goes_on_path k t s h, λ r. path_goes_on k t w s r.0 b r.1 r.2)
