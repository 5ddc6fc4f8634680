-- Counts in an array: one stored, and none. Assumes nothing.
use mathlib.Core.Path.{◌≡◌, refl, ap}
use mathlib.Core.List.{List}
use Prim.Native.Nat.{ℕ, zero, suc, ◌<◌}
use lib.ListN.{length, set, replicate}
use lib.Seq.{get_or-set_same, get_or-set_other}
use Rattle.capped.specs.declared.Count.{Count}
use Rattle.paths.specs.Sweep.{at_state}

pub at_set_same : (cs : List Count) (s : ℕ) (x : Count) → s < length cs → at_state (set cs s x) s ≡ x.value
unfolding at_state
at_set_same cs s x h = ap (λ (a : Count). a.value) (get_or-set_same cs s x (record { value = 0 }) h)

pub at_set_other : (cs : List Count) (s : ℕ) (x : Count) (u : ℕ) → (u ≡ s → ⊥) → at_state (set cs s x) u ≡ at_state cs u
unfolding at_state
at_set_other cs s x u h = ap (λ (a : Count). a.value) (get_or-set_other cs s u x (record { value = 0 }) h)

pub zeros : (n s : ℕ) → at_state (replicate n (record { value = 0 })) s ≡ 0
unfolding at_state
zeros zero s = refl
zeros (suc n) zero = refl
zeros (suc n) (suc s) = zeros n s
