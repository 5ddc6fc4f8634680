-- The tallies that the counts of marked states are, and the counts in the end. Assumes nothing.
use mathlib.Core.Path.{◌≡◌, refl, ap, ◌∙◌}
use mathlib.Core.Bool.{false}
use mathlib.Core.List.{List, [], ◌∷◌}
use mathlib.Core.List.Memᴰ.{head as first}
use mathlib.Core.List.{Memᴰ as Mem}
use Prim.Native.Nat.{ℕ, suc, ◌≤◌, min}
use native.Mathlib.Omega.{arith}
use lib.ListN.{length}
use Rattle.transducer.specs.Format.{Transducer}
use Rattle.transducer.proofs.Runs.{Within, Accepting}
use Rattle.capped.specs.declared.Count.{Count}
use Rattle.paths.specs.Count.{paths_from, paths, endless, path_count, most_counted}
use Rattle.paths.specs.Tally.{tally}
use Rattle.paths.specs.Sweep.{at_state, PathCounts}
use Rattle.paths.proofs.Listed.{in_paths_from}
use Rattle.paths.proofs.Endless.{all_from, Finite, finite_same, endless_false_finite}
use Rattle.paths.proofs.Tally.{tally_length}

-- Enough arcs for the tally to be the whole count.

pub finite_tally : (t : Transducer) → Within t → (s : ℕ) → Finite t s → (k : ℕ) → t.states ≤ suc k → tally k t s ≡ min 99 (length (all_from t s))
finite_tally t w s f k h = tally_length k t s ∙ ap (λ (l : List (List ℕ)). min 99 (length l)) (finite_same t w s f k h)

-- Where nothing accepts the tally is 0.
pub dead_tally : (k : ℕ) (t : Transducer) (s : ℕ) → ((p : List ℕ) → Accepting t s p → ⊥) → tally k t s ≡ 0
dead_tally k t s h =
    let none : length (paths_from k t s) ≡ 0 = empty (paths_from k t s) (λ p m. h p (in_paths_from k t s p m).0) in
    omega (arith, none, tally_length k t s)
  where
    empty : (l : List (List ℕ)) → ((p : List ℕ) → Mem p l → ⊥) → length l ≡ 0
    empty [] none = refl
    empty (p ∷ l) none = absurd (none p (first refl))

-- What the counts are, from each state from which there are finitely many paths.
unfoldable pub Counts : Transducer → (count : ℕ → ℕ) → Type 0
Counts t c = (s : ℕ) → Finite t s → c s ≡ min most_counted (length (all_from t s))

pub settled_counts : (t : Transducer) (cs : List Count) → PathCounts t cs → Counts t (at_state cs)
unfolding Counts
settled_counts t cs e s f = e.counts s f.below f.stops

pub settled_path_count : (t : Transducer) → Within t → (cs : List Count) → PathCounts t cs → endless t ≡ false → at_state cs t.start ≡ path_count t
unfolding Counts path_count paths
settled_path_count t w cs e h = settled_counts t cs e t.start (endless_false_finite t w h)
