-- Sums of the numbers by state. Assumes nothing.
use mathlib.Core.Path.{◌≡◌, refl}
use mathlib.Core.Bool.{Bool, true, false}
use Prim.Native.Nat.{ℕ, zero, suc, ◌+◌, ◌<◌}
use native.Mathlib.Nat.{not-suc-le-zero}
use native.Mathlib.Omega.{arith}
use lib.Dec.{eqb}
use borrow.Author.Tests.{eqb-true, eqb-false}
use Rattle.relax.specs.Tentative.{total}

-- Sweeps come to an end: the sum falls with each change.

pub total_same : (n : ℕ) (c d : ℕ → ℕ) → ((s : ℕ) → s < n → d s ≡ c s) → total n d ≡ total n c
unfolding total
total_same zero c d h = refl
total_same (suc n) c d h = rw (total_same n c d (λ s l. h s (omega arith)), h n (omega arith))

pub total_grows : (n i : ℕ) (c d : ℕ → ℕ) → i < n → c i < d i → ((s : ℕ) → (s ≡ i → ⊥) → d s ≡ c s) → total n c < total n d
unfolding total
total_grows zero i c d b h others = absurd (not-suc-le-zero b)
total_grows (suc n) i c d b h others = on (λ l. total_grows n i c d l h others) (eqb n i) refl
  where
    on : (i < n → total n c < total n d) → (e : Bool) → eqb n i ≡ e → total n c + c n < total n d + d n
    on below true e =
        let same : n ≡ i = eqb-true n i e in
        let here : c n < d n = rw same h in
        let rest : total n d ≡ total n c = total_same n c d (λ s l. others s (λ z. omega arith)) in
        omega arith
    on below false e =
        let apart : n ≡ i → ⊥ = eqb-false n i e in
        let rest : total n c < total n d = below (omega arith) in
        let here : d n ≡ c n = others n apart in
        omega arith
