-- The composition, where it is not refused, is a good transducer: written, it is accepted and reads back as itself. Assumes nothing.
use mathlib.Core.Path.{◌≡◌}
use mathlib.Core.Bool.{true}
use mathlib.Core.Logic.{◌↔◌}
use Prim.Native.Nat.{◌≤◌}
use native.Mathlib.Omega.{arith}
use lib.ListN.{length}
use Rattle.transducer.specs.Format.{Transducer, barred, Good, refusal, decode}
use Rattle.transducer.specs.Encode.{encode}
use Rattle.transducer.specs.Each.{has_no_any_input, plain}
use Rattle.transducer.proofs.Good.{good_tests}
use Rattle.transducer.proofs.RoundTrip.{good_range, refusal_encode, decode_encode}
use Rattle.explore.specs.Explore.{built_refusal}
use Rattle.explore.proofs.Member.{mem_in}
use Rattle.explore.proofs.Built.{Labelled, built_plain, good_built}
use Rattle.steps.specs.Steps.{same_state, steps, first_state}
use Rattle.compose.specs.Compose.{final_state, state_weight, composed}
use Rattle.transducer.proofs.Labels.{Unbarred}
use Rattle.steps.proofs.Labels.{step_unbarred}
use Rattle.steps.proofs.SameState.{same_state_decides}

pub good_arcs_below : (t : Transducer) → Good t → length t.arcs ≤ barred
good_arcs_below t g = omega (arith, (good_range t g).arcs)

module _ (t u : Transducer) (good_t : Good t) (all : has_no_any_input t ≡ true) (good_u : Good u) where
  pub steps_labelled : Labelled (steps t u)
  steps_labelled x s m =
      let r : Unbarred s.input s.output = step_unbarred t u (good_tests t good_t).labels all (good_tests u good_u).labels x s (mem_in m) in
      (r.read, r.written)

  -- No composed table holds 65,535.
  pub composed_plain : plain (composed t u).result ≡ true
  unfolding composed
  composed_plain = built_plain same_state (steps t u) (final_state t u) (state_weight t u) (first_state t u) steps_labelled

  pub good_composed : Good (composed t u).result ↔ (built_refusal (composed t u).result ≡ 0)
  unfolding composed
  good_composed = good_built same_state (steps t u) (final_state t u) (state_weight t u) (first_state t u) same_state_decides steps_labelled

  pub composed_good : built_refusal (composed t u).result ≡ 0 → Good (composed t u).result
  composed_good h = good_composed.1 h

  pub refusal_composed : built_refusal (composed t u).result ≡ 0 → refusal (encode (composed t u).result) ≡ 0
  refusal_composed h = refusal_encode (composed t u).result (composed_good h)

  pub decode_composed : built_refusal (composed t u).result ≡ 0 → decode (encode (composed t u).result) ≡ (composed t u).result
  decode_composed h = decode_encode (composed t u).result (composed_good h)
