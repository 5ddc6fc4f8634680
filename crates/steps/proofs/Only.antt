-- Laws of `FitsOnly`: a right state with at most one arc, and none for any symbol, fits one label alone. Assumes nothing.
use mathlib.Core.Path.{◌≡◌, sym}
use Prim.Native.Nat.{ℕ, ◌+◌, ◌-◌, ◌≤◌, ◌<◌}
use native.Mathlib.Omega.{arith}
use lib.Dec.{eqb, ltb}
use borrow.Author.Tests.{eq-eqb, ltb-true, ltb-false}
use Rattle.transducer.specs.Format.{Transducer, any}
use Rattle.transducer.specs.Path.{arc}
use Rattle.transducer.specs.Each.{fits}
use Rattle.transducer.specs.Accepted.{Leaving}
use Rattle.transducer.proofs.Fits.{Fitting, no_any, as_any, fits_cases}
use Rattle.wire.proofs.Bool.{by_test}
use Rattle.steps.specs.Runs.{fitting_from, reading_from, several, FitsOnly}
use Rattle.steps.proofs.Reading.{FirstPassing, first_is}

-- What is no label promises nothing.
pub several_fit : {u : Transducer} {from to only : ℕ} → several ≤ only → FitsOnly u from to only
several_fit h = record { no_other = λ less. absurd (omega arith) }

-- A state without arcs.
pub none_fits : {u : Transducer} {from to : ℕ} → from ≡ to → FitsOnly u from to 0
none_fits {u} {from} {to} e =
    record { no_other = λ less label some other. omega (arith, (first_is u (fits u label) from to (omega arith)).least) }

-- A state with one arc, which is not for any symbol.
pub one_fits : {u : Transducer} {q from to : ℕ} (wild : ℕ) → Leaving u q from to → wild ≡ reading_from u any (to - from) from → to ≤ wild → from < to
    → to ≤ from + 1 → FitsOnly u from to (arc u from).input
one_fits {u} {q} {from} {to} wild l is none some one = record { no_other = λ less label writes other. at_end label other }
  where
    wild_first : FirstPassing u (λ a. eqb a.input any) from to wild
    wild_first = rw is (first_is u (λ a. eqb a.input any) from to l.rest.order)

    on : {label : ℕ} → (label ≡ (arc u from).input → ⊥) → Fitting u label (arc u from) → ⊥
    on other (no_any e) = other (sym e)
    on other (as_any e writes free) = wild_first.before from (omega arith) (omega arith) (eq-eqb (arc u from).input any e)

    at_end : (label : ℕ) → (label ≡ (arc u from).input → ⊥) → to ≤ fitting_from u label (to - from) from
    at_end label other =
        let k : ℕ = fitting_from u label (to - from) from in
        let first : FirstPassing u (fits u label) from to k = first_is u (fits u label) from to l.rest.order in
        by_test (ltb k to)
        (λ e. let below : k < to = ltb-true k to e in
        let here : k ≡ from = omega (arith, first.least) in
        absurd (on other (fits_cases u label (arc u from) (rw here at (first.passes below)))))
        (λ e. omega (arith, ltb-false k to e))
