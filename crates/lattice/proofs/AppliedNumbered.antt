-- The numbering of lattice states before trimming. Assumes nothing.
use mathlib.Core.Path.{◌≡◌}
use mathlib.Core.Logic.{◌↔◌}
use mathlib.Core.List.{List, ◌∷◌}
use Prim.Native.Nat.{ℕ, ◌≤◌}
use lib.ListN.{length}
use Rattle.transducer.specs.Format.{max_states, Transducer}
use Rattle.explore.specs.Explore.{targets, built_refusal}
use Rattle.explore.proofs.Numbered as numbering
use Rattle.explore.proofs.Numbered.{Numbered, MoreReached, built_numbered}
use Rattle.explore.proofs.Built.{refused_11}
use Rattle.lattice.specs.Apply.{same_state, steps, final_state, applied, first_state}
use Rattle.lattice.proofs.LatticeGood.{state_weight}
use Rattle.lattice.proofs.SameState.{same_state_decides}

module _ (cs : List ℕ) (t : Transducer) where
  pub applied_numbered : length (applied cs t).states ≤ max_states
      → Numbered same_state (steps cs t) (first_state t) (applied cs t).states (first_state t ∷ targets (applied cs t).steps)
  unfolding applied
  applied_numbered = built_numbered same_state (steps cs t) (final_state cs t) (state_weight t) (first_state t) same_state_decides

  pub unrefused_numbered : built_refusal (applied cs t).result ≡ 0
      → Numbered same_state (steps cs t) (first_state t) (applied cs t).states (first_state t ∷ targets (applied cs t).steps)
  unfolding applied
  unrefused_numbered = numbering.unrefused_numbered same_state (steps cs t) (final_state cs t) (state_weight t) (first_state t) same_state_decides

  -- 11 exactly where more than 1,024 states are reached.
  pub applied_11 : (built_refusal (applied cs t).result ≡ 11) ↔ MoreReached same_state (steps cs t) (first_state t)
  unfolding applied
  applied_11 = refused_11 same_state (steps cs t) (final_state cs t) (state_weight t) (first_state t) same_state_decides
