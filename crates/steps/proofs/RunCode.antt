-- What the code of a run relies on: the search for the next left arc with a step. Assumes nothing.
use mathlib.Core.Path.{◌≡◌, refl, sym, ap, ◌∙◌}
use mathlib.Core.Bool.{true, false}
use Prim.Native.Nat.{ℕ, suc, ◌+◌, ◌-◌, ◌≤◌, ◌<◌}
use native.Mathlib.Numerals.{add-one}
use native.Mathlib.Omega.{arith}
use borrow.Author.Tests.{eq-eqb, ne_eqb, lt-ltb, le-ltb}
use Rattle.transducer.specs.Format.{Transducer}
use Rattle.transducer.specs.Path.{arc}
use Rattle.steps.specs.Runs.{fitting_from, begin_from, several, FitsOnly}

-- begin_from

module _ (t u : Transducer) (filter from to last k : ℕ) where
  begin_alone : k < last → (arc t k).output ≡ 0 → filter ≡ 0
      → begin_from t u filter from (to - from) (last - k) k ≡ record { alone = true; i = k; j = 0 }
  unfolding begin_from
  begin_alone l e f =
      let more : last - k ≡ suc (last - suc k) = omega arith in
      rw (more, eq-eqb (arc t k).output 0 e, eq-eqb filter 0 f)

  begin_silent : k < last → (arc t k).output ≡ 0 → (filter ≡ 0 → ⊥)
      → begin_from t u filter from (to - from) (last - k) k ≡ begin_from t u filter from (to - from) (last - (k + 1)) (k + 1)
  unfolding begin_from
  begin_silent l e f =
      let more : last - k ≡ suc (last - suc k) = omega arith in
      rw (add-one, more, eq-eqb (arc t k).output 0 e, ne_eqb filter 0 f)

  begin_met : (j : ℕ) → k < last → ((arc t k).output ≡ 0 → ⊥) → j ≡ fitting_from u (arc t k).output (to - from) from → from ≤ to → j < to
      → begin_from t u filter from (to - from) (last - k) k ≡ record { alone = false; i = k; j = j }
  unfolding begin_from
  begin_met j l e r o h =
      let more : last - k ≡ suc (last - suc k) = omega arith in
      rw (more, ne_eqb (arc t k).output 0 e, ← r, lt-ltb j (from + (to - from)) (omega arith))

  begin_unmet : (j : ℕ) → k < last → ((arc t k).output ≡ 0 → ⊥) → j ≡ fitting_from u (arc t k).output (to - from) from → from ≤ to → to ≤ j
      → begin_from t u filter from (to - from) (last - k) k ≡ begin_from t u filter from (to - from) (last - (k + 1)) (k + 1)
  unfolding begin_from
  begin_unmet j l e r o h =
      let more : last - k ≡ suc (last - suc k) = omega arith in
      rw (add-one, more, ne_eqb (arc t k).output 0 e, ← r, le-ltb j (from + (to - from)) (omega arith))

  begin_stop : last ≤ k
      → begin_from t u filter from (to - from) (last - k) k ≡ record { alone = false; i = k; j = fitting_from u 0 (to - from) from }
  unfolding begin_from
  begin_stop l = let none : last - k ≡ 0 = omega arith in rw none

-- The search for the next run has come to left arc k: what is left gives the whole.
pub record Seeking (t u : Transducer) (filter from to i last k : ℕ) : Type 0 where
  pub within : k ≤ last
  pub same : begin_from t u filter from (to - from) (last - k) k ≡ begin_from t u filter from (to - from) (last - i) i

module _ {t u : Transducer} {filter from to i last : ℕ} where
  pub seeking_alone : {k : ℕ} → k < last → (arc t k).output ≡ 0 → filter ≡ 0 → Seeking t u filter from to i last k
      → record { alone = true; i = k; j = 0 } ≡ begin_from t u filter from (to - from) (last - i) i
  seeking_alone {k} l e f s = sym (begin_alone t u filter from to last k l e f) ∙ s.same

  pub seeking_silent : {k : ℕ} → k < last → (arc t k).output ≡ 0 → (filter ≡ 0 → ⊥) → Seeking t u filter from to i last k
      → Seeking t u filter from to i last (k + 1)
  seeking_silent {k} l e f s =
      record { within = omega arith; same = sym (begin_silent t u filter from to last k l e f) ∙ s.same }

  pub seeking_met : {k j : ℕ} → k < last → ((arc t k).output ≡ 0 → ⊥) → j ≡ fitting_from u (arc t k).output (to - from) from → from ≤ to → j < to
      → Seeking t u filter from to i last k → record { alone = false; i = k; j = j } ≡ begin_from t u filter from (to - from) (last - i) i
  seeking_met {k} {j} l e r o h s = sym (begin_met t u filter from to last k j l e r o h) ∙ s.same

  pub seeking_unmet : {k j : ℕ} → k < last → ((arc t k).output ≡ 0 → ⊥) → j ≡ fitting_from u (arc t k).output (to - from) from → from ≤ to → to ≤ j
      → Seeking t u filter from to i last k → Seeking t u filter from to i last (k + 1)
  seeking_unmet {k} {j} l e r o h s =
      record { within = omega arith; same = sym (begin_unmet t u filter from to last k j l e r o h) ∙ s.same }

  -- A left arc that writes another label than the one that may fit.
  pub seeking_other : {k only : ℕ} → k < last → only < several → ((arc t k).output ≡ 0 → ⊥) → ((arc t k).output ≡ only → ⊥) → from ≤ to
      → FitsOnly u from to only → Seeking t u filter from to i last k → Seeking t u filter from to i last (k + 1)
  seeking_other {k} l less e other o fit s = seeking_unmet l e refl o (fit.no_other less (arc t k).output e other) s

  pub seeking_stop : {k : ℕ} (j : ℕ) → last ≤ k → j ≡ fitting_from u 0 (to - from) from → Seeking t u filter from to i last k
      → record { alone = false; i = last; j = j } ≡ begin_from t u filter from (to - from) (last - i) i
  seeking_stop {k} j l r s =
      let e : last ≡ k = omega (arith, s.within) in
      ap (λ (n : ℕ). record { alone = false; i = n; j = j }) e ∙ rw r (sym (begin_stop t u filter from to last k l) ∙ s.same)
