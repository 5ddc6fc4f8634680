-- The claim is not empty: three transducers of one arc each, 1:2, 2:3 and 3:4, compose in either bracket, and the string 1 is applied to both results, in
-- any buffers that are long enough. Assumes nothing.
use mathlib.Core.Path.{◌≡◌, refl, sym, ap, subst, ◌∙◌}
use mathlib.Core.List.{List, [], ◌∷◌}
use Prim.Native.Nat.{ℕ, ◌≤◌}
use lib.ListN.{length}
use Rattle.wire.specs.Bytes.{Bytes, two, four, low, signed_four, signed_low, places, every}
use Rattle.transducer.specs.Format.{max_states, max_arcs, max_bytes, max_origins}
use Rattle.transducer.specs.Format.{framed_from, framed, records_from, records, kind_good, in_order, kinds_good}
use Rattle.transducer.specs.Format.{weight_at, weight_good, labels_good, finals_in, arcs_in}
use Rattle.transducer.specs.Format.{head_states, head_arcs, head_finals, head_start, decode, head_good, states_good, finals_rise, sources_stay, order_good}
use Rattle.transducer.specs.Format.{all_labels_good, weights_good, first_of, content_refusal, refusal}
use Rattle.transducer.specs.Encode.{weight_bytes, head_record, final_record, arc_record, final_records, arc_records, encode}
use Rattle.transducer.specs.Path.{is_final, final_weight, arc, ends}
use Rattle.transducer.specs.Each.{by_number, each_arc, unnamed, fits, passed, has_no_any_input, any_refusal}
use Rattle.transducer.specs.Entry.{or_else}
use Rattle.explore.specs.Explore.{there, place, met, served, numbered, targets, arcs_here, arcs_from, finals_from, steps_from}
use Rattle.explore.specs.Explore.{built, built_refusal}
use Rattle.steps.specs.Steps.{same_state, left_alone, right_alone, both_step, left_steps, right_steps, steps, first_state}
use Rattle.compose.specs.Compose.{final_state, state_weight, composed}
use Rattle.compose.specs.Entry.{composition_refusal}
use Rattle.compose.specs.Composition.{Composition}
use Rattle.compose.proofs.Called.{composed_bytes_are, some_composition}
use Rattle.lattice.specs.Apply.{string_good, step, arc_steps, applied}
use Rattle.lattice.specs.Apply.{same_state as same-position, steps as applied-steps, final_state as final-position}
use Rattle.lattice.specs.ApplyEntry.{application_refusal}
use Rattle.lattice.specs.Application.{Application}
use Rattle.lattice.proofs.Called.{some_application}
use Rattle.claim.proofs.OneArc.{one_arc, all_bytes}
use Rattle.associate.specs.Associate.{Brackets, left_result, right_result}

abbrev a : List ℕ
a = one_arc 1 2 5

abbrev b : List ℕ
b = one_arc 2 3 6

abbrev c : List ℕ
c = one_arc 3 4 7

-- What the definitions give, computed: each composition is not refused and has one arc, and the string is not refused.
record Computed : Type 0 where
  ab_fine : composition_refusal a b ≡ 0
  bc_fine : composition_refusal b c ≡ 0
  ab_c_fine : composition_refusal (one_arc 1 3 11) c ≡ 0
  a_bc_fine : composition_refusal a (one_arc 2 4 13) ≡ 0
  ab_is : encode (composed (decode a) (decode b)).result ≡ one_arc 1 3 11
  bc_is : encode (composed (decode b) (decode c)).result ≡ one_arc 2 4 13
  ab_c_is : encode (composed (decode (one_arc 1 3 11)) (decode c)).result ≡ one_arc 1 4 18
  a_bc_is : encode (composed (decode a) (decode (one_arc 2 4 13))).result ≡ one_arc 1 4 18
  accepted : refusal (one_arc 1 4 18) ≡ 0
  applied_fine : application_refusal (1 ∷ []) (decode (one_arc 1 4 18)) ≡ 0

computed : Computed
unfolding one_arc two four low signed_four signed_low places every framed_from framed records_from records kind_good in_order kinds_good weight_at
    weight_good labels_good
    finals_in arcs_in head_states head_arcs head_finals head_start decode head_good states_good finals_rise sources_stay order_good all_labels_good
    weights_good first_of content_refusal refusal weight_bytes head_record final_record arc_record final_records arc_records encode is_final
    final_weight arc ends by_number each_arc unnamed fits passed has_no_any_input any_refusal or_else there place met served numbered targets arcs_here arcs_from
    finals_from steps_from built built_refusal same_state left_alone right_alone both_step left_steps right_steps steps first_state final_state
    state_weight composed composition_refusal string_good step arc_steps applied same-position applied-steps final-position application_refusal
computed =
    record {
      ab_fine = refl;
      bc_fine = refl;
      ab_c_fine = refl;
      a_bc_fine = refl;
      ab_is = refl;
      bc_is = refl;
      ab_c_is = refl;
      a_bc_is = refl;
      accepted = refl;
      applied_fine = refl;
    }

bytes_all : Bytes a × Bytes b × Bytes c
unfolding one_arc every
bytes_all = (all_bytes a refl, all_bytes b refl, all_bytes c refl)

module _ (t o s : List ℕ) (long_t : max_bytes ≤ length t) (long_o : max_origins ≤ length o) (long_s : max_states ≤ length s) where
  abbrev composing : (xs ys : List ℕ) → composition_refusal xs ys ≡ 0 → Composition xs ys
  composing = some_composition t o s long_t long_o long_s

  pub some_brackets : Brackets a b c
  some_brackets =
      let ab : Composition a b = composing a b computed.ab_fine in
      let bc : Composition b c = composing b c computed.bc_fine in
      record {
        a_bytes = bytes_all.0;
        b_bytes = bytes_all.1;
        c_bytes = bytes_all.2;
        ab = ab;
        ab_c = subst (λ (xs : List ℕ). Composition xs c) (sym (composed_bytes_are ab ∙ computed.ab_is)) (composing (one_arc 1 3 11) c computed.ab_c_fine);
        bc = bc;
        a_bc = subst (λ (xs : List ℕ). Composition a xs) (sym (composed_bytes_are bc ∙ computed.bc_is)) (composing a (one_arc 2 4 13) computed.a_bc_fine);
      }

  left_is : left_result some_brackets ≡ one_arc 1 4 18
  left_is =
      composed_bytes_are some_brackets.ab_c
      ∙ ap (λ (xs : List ℕ). encode (composed (decode xs) (decode c)).result) (composed_bytes_are some_brackets.ab ∙ computed.ab_is) ∙ computed.ab_c_is

  right_is : right_result some_brackets ≡ one_arc 1 4 18
  right_is =
      composed_bytes_are some_brackets.a_bc
      ∙ ap (λ (xs : List ℕ). encode (composed (decode a) (decode xs)).result) (composed_bytes_are some_brackets.bc ∙ computed.bc_is) ∙ computed.a_bc_is

  module _ (l : List ℕ) (long_l : max_arcs ≤ length l) where
    pub some_applications : Application (1 ∷ []) (left_result some_brackets) × Application (1 ∷ []) (right_result some_brackets)
    some_applications =
        let both : Application (1 ∷ []) (one_arc 1 4 18) =
        some_application t l s long_t long_l long_s (1 ∷ []) (one_arc 1 4 18) computed.accepted computed.applied_fine in
        (subst (Application (1 ∷ [])) (sym left_is) both, subst (Application (1 ∷ [])) (sym right_is) both)
