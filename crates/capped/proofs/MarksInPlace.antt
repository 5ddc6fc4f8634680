-- Marks in an array: one changed, and the dead states marked. Assumes nothing.
use mathlib.Core.Path.{◌≡◌, ap, ◌∙◌}
use mathlib.Core.Bool.{Bool, true, false, ◌||◌, not}
use mathlib.Core.List.{List}
use Prim.Native.Nat.{ℕ, ◌+◌, ◌≤◌, ◌<◌}
use native.Mathlib.Omega.{arith}
use native.Mathlib.Decide.{ℕ_discrete}
use lib.ListN.{length, set, length-set}
use lib.Seq.{get_or-set_same, get_or-set_other}
use Rattle.capped.specs.Marks.{marked, WithDead}

-- One changed

pub marked_set_same : (ms : List Bool) (s : ℕ) (value : Bool) → s < length ms → marked (set ms s value) s ≡ value
unfolding marked
marked_set_same ms s value h = get_or-set_same ms s value false h

pub marked_set_other : (ms : List Bool) (s : ℕ) (value : Bool) (u : ℕ) → (u ≡ s → ⊥) → marked (set ms s value) u ≡ marked ms u
unfolding marked
marked_set_other ms s value u n = get_or-set_other ms s u value false n

pub marked_grows : (ms : List Bool) (s : ℕ) → s < length ms → (u : ℕ) → marked ms u ≡ true → marked (set ms s true) u ≡ true
marked_grows ms s h u m = on (ℕ_discrete u s)
  where
    on : Dec (u ≡ s) → marked (set ms s true) u ≡ true
    on (yes y) = rw y (marked_set_same ms s true h)
    on (no n) = marked_set_other ms s true u n ∙ m

-- What holds below a number and at it holds below the next.
pub below_next : (P : ℕ → Type 0) (s : ℕ) → ((u : ℕ) → u < s → P u) → P s → (u : ℕ) → u < s + 1 → P u
below_next P s h here u l = on (ℕ_discrete u s)
  where
    on : Dec (u ≡ s) → P u
    on (yes y) = rw y here
    on (no n) = h u (omega arith)

-- Marking the dead states

-- Those below s are marked.
pub record DeadBelow (s : ℕ) (live ms ms' : List Bool) : Type 0 where
  pub below : WithDead s live ms ms'
  pub above : (u : ℕ) → s ≤ u → marked ms' u ≡ marked ms u

pub dead_next : (live ms ms' : List Bool) (s : ℕ) → s < length ms → DeadBelow s live ms ms'
    → DeadBelow (s + 1) live ms (set ms' s (marked ms' s || not (marked live s)))
dead_next live ms ms' s room k =
    record {
      below = record { long = length-set ms' s x ∙ k.below.long; at_state = λ u l. on u l (ℕ_discrete u s) };
      above = λ u l. marked_set_other ms' s x u (λ q. omega arith) ∙ k.above u (omega arith);
    }
  where
    x : Bool
    x = marked ms' s || not (marked live s)

    on : (u : ℕ) → u < s + 1 → Dec (u ≡ s) → marked (set ms' s (marked ms' s || not (marked live s))) u ≡ marked ms u || not (marked live u)
    on u l (yes y) =
        rw y (marked_set_same ms' s x (omega (arith, k.below.long)) ∙ ap (λ (b : Bool). b || not (marked live s)) (k.above s (omega arith)))
    on u l (no n) = marked_set_other ms' s x u n ∙ k.below.at_state u (omega arith)
