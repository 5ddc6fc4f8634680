-- `endless` found by marks that are set state by state, in any order: a state may be marked once all its arcs lead to marked ones, and a dead state at
-- any time. From the states that are left unmarked arcs lead on for ever. Assumes nothing.
use mathlib.Core.Path.{◌≡◌, refl, sym, ◌∙◌}
use mathlib.Core.Bool.{Bool, true, false, not}
use mathlib.Core.Logic.{◌⊎◌, inl, inr}
use Prim.Native.Nat.{ℕ, zero, suc, ◌≤◌, ◌<◌}
use native.Mathlib.Omega.{arith}
use native.Mathlib.Decide.{ℕ_discrete}
use lib.ListN.{length}
use borrow.Author.Tests.{not-true}
use Rattle.wire.proofs.Bool.{clash, is_false}
use Rattle.transducer.specs.Format.{Transducer}
use Rattle.transducer.specs.Path.{arc}
use Rattle.transducer.proofs.Runs.{Within, accepts_accepting}
use Rattle.reach.specs.Reach.{some_arc, coaccessible}
use Rattle.reach.proofs.Reach.{SomeAt, some_arc_at, at_some_arc}
use Rattle.paths.specs.Count.{goes_on, endless}
use Rattle.paths.specs.Sweep.{Stopping}
use Rattle.paths.proofs.GoesOn.{dead_none, goes_on_path, path_goes_on}
use Rattle.paths.proofs.Endless.{endless_longer}

goes_on_less : (k : ℕ) (t : Transducer) → Within t → (s : ℕ) → s < t.states → goes_on k t s ≡ false → goes_on (suc k) t s ≡ false
goes_on_less k t w s b h =
    is_false (goes_on (suc k) t s) (λ e.
    let p = goes_on_path (suc k) t s e in
    let long : suc k ≤ length p.0 = p.2 in
    clash (path_goes_on k t w s p.0 b p.1 (omega arith)) h)

pub stopping_none : (t : Transducer) (g : ℕ → Bool) → ((s : ℕ) → g s ≡ false) → Stopping t g
stopping_none t g h = record { rounds = 0; stops = λ s b q. clash q (h s) }

-- A state whose arcs all lead to marked ones may be marked.
pub stopping_next : (t : Transducer) → Within t → (g : ℕ → Bool) (i : ℕ) (h : ℕ → Bool) → Stopping t g
    → ((k : ℕ) → k < length t.arcs → (arc t k).source ≡ i → g (arc t k).target ≡ true) → ((s : ℕ) → (s ≡ i → ⊥) → h s ≡ g s) → Stopping t h
unfolding goes_on arc
stopping_next t w g i h r shut others = record { rounds = suc r.rounds; stops = λ s b e. on s b e (ℕ_discrete s i) }
  where
    closed : some_arc t.arcs i (goes_on r.rounds t) ≡ false
    closed = is_false (some_arc t.arcs i (goes_on r.rounds t)) (λ e. none (some_arc_at t.arcs i (goes_on r.rounds t) e))
      where
        none : SomeAt t.arcs i (goes_on r.rounds t) → ⊥
        none a =
            let u : ℕ = (arc t a.place).target in
            clash a.for (r.stops u (w.arrives a.place a.below) (shut a.place a.below a.leaves))

    on : (s : ℕ) → s < t.states → h s ≡ true → Dec (s ≡ i) → goes_on (suc r.rounds) t s ≡ false
    on s b e (yes y) = rw y closed
    on s b e (no n) = goes_on_less r.rounds t w s b (r.stops s b (sym (others s n) ∙ e))

-- Dead states may be marked.
pub stopping_dead : (t : Transducer) → Within t → (g h : ℕ → Bool) → Stopping t g
    → ((s : ℕ) → s < t.states → h s ≡ true → (g s ≡ true) ⊎ (coaccessible t.states t s ≡ false)) → Stopping t h
stopping_dead t w g h r from = record { rounds = r.rounds; stops = λ s b e. on s b (from s b e) }
  where
    on : (s : ℕ) → s < t.states → (g s ≡ true) ⊎ (coaccessible t.states t s ≡ false) → goes_on r.rounds t s ≡ false
    on s b (inl q) = r.stops s b q
    on s b (inr d) = is_false (goes_on r.rounds t s) (λ e. let p = goes_on_path r.rounds t s e in dead_none t w s d p.0 p.1)

-- Nothing is left to mark

module _ (t : Transducer) (w : Within t) (g : ℕ → Bool)
    (rest : (s : ℕ) → s < t.states → g s ≡ false → some_arc t.arcs s (λ u. not (g u)) ≡ true)
    (alive : (s : ℕ) → s < t.states → g s ≡ false → coaccessible t.states t s ≡ true) where
  pub unmarked_goes_on : (k s : ℕ) → s < t.states → g s ≡ false → goes_on k t s ≡ true
  unfolding goes_on arc
  unmarked_goes_on zero s b e = alive s b e
  unmarked_goes_on (suc k) s b e =
      let a = some_arc_at t.arcs s (λ v. not (g v)) (rest s b e) in
      let u : ℕ = (arc t a.place).target in
      at_some_arc t.arcs s (goes_on k t) a.place a.below a.leaves
      (unmarked_goes_on k u (w.arrives a.place a.below) (not-true (g u) a.for))

  pub unmarked_endless : Stopping t g → not (g t.start) ≡ endless t
  unfolding endless
  unmarked_endless r = on (g t.start) refl
    where
      on : (b : Bool) → g t.start ≡ b → not b ≡ goes_on t.states t t.start
      on false e = sym (unmarked_goes_on t.states t.start w.starts e)
      on true e = sym (is_false (goes_on t.states t t.start) (λ h.
          let p = endless_longer t w h r.rounds in
          clash (path_goes_on r.rounds t w t.start p.0 w.starts (accepts_accepting t p.0 p.1) p.2) (r.stops t.start w.starts e)))
