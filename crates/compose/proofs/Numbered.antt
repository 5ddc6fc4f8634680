-- The numbering of composed states. Assumes nothing.
use mathlib.Core.Path.{◌≡◌}
use mathlib.Core.Logic.{◌↔◌}
use mathlib.Core.List.{◌∷◌}
use Prim.Native.Nat.{◌≤◌}
use lib.ListN.{length}
use Rattle.transducer.specs.Format.{max_states, Transducer}
use Rattle.explore.specs.Explore.{targets, built_refusal}
use Rattle.explore.proofs.Numbered as numbering
use Rattle.explore.proofs.Numbered.{Numbered, MoreReached, built_numbered}
use Rattle.explore.proofs.Built.{refused_11}
use Rattle.steps.specs.Steps.{same_state, steps, first_state}
use Rattle.compose.specs.Compose.{final_state, state_weight, composed}
use Rattle.steps.proofs.SameState.{same_state_decides}

module _ (t u : Transducer) where
  pub composed_numbered : length (composed t u).states ≤ max_states
      → Numbered same_state (steps t u) (first_state t u) (composed t u).states (first_state t u ∷ targets (composed t u).steps)
  unfolding composed
  composed_numbered = built_numbered same_state (steps t u) (final_state t u) (state_weight t u) (first_state t u) same_state_decides

  pub unrefused_numbered : built_refusal (composed t u).result ≡ 0
      → Numbered same_state (steps t u) (first_state t u) (composed t u).states (first_state t u ∷ targets (composed t u).steps)
  unfolding composed
  unrefused_numbered =
      numbering.unrefused_numbered same_state (steps t u) (final_state t u) (state_weight t u) (first_state t u) same_state_decides

  -- 11 exactly where more than 1,024 states are reached.
  pub composed_11 : (built_refusal (composed t u).result ≡ 11) ↔ MoreReached same_state (steps t u) (first_state t u)
  unfolding composed
  composed_11 = refused_11 same_state (steps t u) (final_state t u) (state_weight t u) (first_state t u) same_state_decides
