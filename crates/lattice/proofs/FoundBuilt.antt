-- The walk by keys finds the lattice before trimming: its keys are those of the lattice's states, and where these are at most 1,024 its arcs and
-- origins are the lattice's. Assumes nothing.
use mathlib.Core.Path.{◌≡◌, refl, ap, ◌∙◌}
use mathlib.Core.List.{List, [], ◌∷◌, map}
use Prim.Native.Nat.{ℕ, ◌≤◌}
use lib.ListN.{length}
use Rattle.transducer.specs.Format.{max_states, Transducer, Good}
use Rattle.explore.specs.Explore.{Step}
use Rattle.explore.specs.Walk.{all_origins}
use Rattle.explore.proofs.ExploredKeys.{explored_keys, explored_length, explored_arcs, explored_origins}
use Rattle.lattice.specs.Apply.{final_state, applied}
use Rattle.lattice.specs.Applying.{one, found}
use Rattle.lattice.specs.Pack.{pack}
use Rattle.lattice.proofs.KeyParts.{keying}
use Rattle.lattice.proofs.LatticeGood.{state_weight}

-- Each step has one origin.
pub origins_one : {A : Type 0} (ss : List (Step A ℕ)) → all_origins one ss ≡ map (λ s. s.origin) ss
unfolding all_origins one
origins_one [] = refl
origins_one (s ∷ ss) = ap (λ (os : List ℕ). s.origin ∷ os) (origins_one ss)

module _ (cs : List ℕ) (t : Transducer) (good : Good t) where
  pub found_keys : (found cs t).keys ≡ map pack (applied cs t).states
  unfolding applied
  found_keys = explored_keys (keying cs t good) (final_state cs t) (state_weight t)

  pub found_length : length (found cs t).keys ≡ length (applied cs t).states
  unfolding applied
  found_length = explored_length (keying cs t good) (final_state cs t) (state_weight t)

  module _ (few : length (applied cs t).states ≤ max_states) where
    pub found_arcs : (found cs t).arcs ≡ (applied cs t).result.arcs
    unfolding applied
    found_arcs = explored_arcs (keying cs t good) (final_state cs t) (state_weight t) few

    pub found_origins : (found cs t).origins ≡ map (λ s. s.origin) (applied cs t).steps
    unfolding applied
    found_origins = explored_origins (keying cs t good) (final_state cs t) (state_weight t) few ∙ origins_one (applied cs t).steps
