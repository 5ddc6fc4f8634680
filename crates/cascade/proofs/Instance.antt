-- The claim is not empty: the string 7 is applied to a transducer of one arc for any symbol, which passes it on, and the lattice is composed with one of
-- an arc 7:4; and for 1:2, 2:3 and the string 1 neither order is refused, in any buffers that are long enough. Assumes nothing.
use mathlib.Core.Path.{◌≡◌, refl, sym, subst, ◌∙◌}
use mathlib.Core.List.{List, [], ◌∷◌}
use Prim.Native.Nat.{ℕ, ◌≤◌}
use native.Mathlib.Omega.{arith}
use lib.ListN.{length}
use Rattle.wire.specs.Bytes.{Bytes, two, four, low, signed_four, signed_low, places, every}
use Rattle.transducer.specs.Format.{max_states, max_arcs, max_bytes, max_origins}
use Rattle.transducer.specs.Format.{framed_from, framed, records_from, records, kind_good, in_order, kinds_good}
use Rattle.transducer.specs.Format.{weight_at, weight_good, labels_good, finals_in, arcs_in}
use Rattle.transducer.specs.Format.{head_states, head_arcs, head_finals, head_start, decode, head_good, states_good, finals_rise, sources_stay, order_good}
use Rattle.transducer.specs.Format.{all_labels_good, weights_good, first_of, content_refusal, refusal}
use Rattle.transducer.specs.Encode.{weight_bytes, head_record, final_record, arc_record, final_records, arc_records, encode}
use Rattle.transducer.specs.Path.{is_final, final_weight, arc, ends}
use Rattle.transducer.specs.Each.{by_number, each_arc, unnamed, fits, passed, has_no_any_input, any_refusal}
use Rattle.transducer.specs.Entry.{or_else, unless}
use Rattle.reach.specs.Reach.{entered, some_arc, accessible, coaccessible}
use Rattle.trim.specs.Passing.{passing}
use Rattle.trim.specs.Trim.{useful, arc_useful, renumbered, moved, kept_finals, trimmed}
use Rattle.explore.specs.Explore.{there, place, met, served, numbered, targets, arcs_here, arcs_from, finals_from, steps_from}
use Rattle.explore.specs.Explore.{built, built_refusal}
use Rattle.steps.specs.Steps.{same_state, left_alone, right_alone, both_step, left_steps, right_steps, steps, first_state}
use Rattle.compose.specs.Compose.{final_state, state_weight, composed}
use Rattle.compose.specs.Entry.{compose_room, composition_refusal}
use Rattle.compose.specs.Composition.{Composition}
use Rattle.compose.proofs.Called.{composed_bytes_are, some_composition}
use Rattle.lattice.specs.Apply.{string_good, step, arc_steps, applied}
use Rattle.lattice.specs.Apply.{same_state as same-position, steps as applied-steps, final_state as final-position}
use Rattle.lattice.specs.Lattice.{lattice}
use Rattle.lattice.specs.ApplyEntry.{application_refusal}
use Rattle.lattice.specs.Application.{Application}
use Rattle.lattice.proofs.Called.{lattice_bytes_are, some_application}
use Rattle.claim.proofs.OneArc.{one_arc, all_bytes}
use Rattle.explore.specs.Explore.{left_behind}
use Rattle.cascade.specs.Entry.{cascade, cascade_origins, tables_refusal, cascade_refusal}
use Rattle.cascade.specs.Cascade.{Cascaded, TwoCalls, Chained}
use Rattle.cascade.specs.Three.{ThreeCascaded}
use Rattle.cascade.proofs.Cascaded.{cascaded_bytes_are}

-- One arc for any symbol, which passes it on, from state 0 to state 1, which is final.
unfoldable pub any_arc : (weight : ℕ) → List ℕ
any_arc weight =
    8 ∷ 0 ∷ 1 ∷ 0 ∷ 2 ∷ 0 ∷ 1 ∷ 0 ∷ 1 ∷ 0 ∷ 0 ∷ 0
    ∷ 6 ∷ 0 ∷ 2 ∷ 0 ∷ 1 ∷ 0 ∷ 0 ∷ 0 ∷ 0 ∷ 0
    ∷ 12 ∷ 0 ∷ 3 ∷ 0 ∷ 0 ∷ 0 ∷ 255 ∷ 255 ∷ 255 ∷ 255 ∷ 1 ∷ 0 ∷ weight ∷ 0 ∷ 0 ∷ 0 ∷ []

abbrev a : List ℕ
a = one_arc 1 2 5

abbrev b : List ℕ
b = one_arc 2 3 6

abbrev c : List ℕ
c = one_arc 7 4 6

abbrev d : List ℕ
d = one_arc 4 9 2

-- What the definitions give, computed: nothing is refused, and each lattice and composition has one arc.
record Computed : Type 0 where
  any_good : refusal (any_arc 5) ≡ 0
  any_fine : application_refusal (7 ∷ []) (decode (any_arc 5)) ≡ 0
  any_is : encode (lattice (7 ∷ []) (decode (any_arc 5))) ≡ one_arc 7 7 5
  any_c_fine : composition_refusal (one_arc 7 7 5) c ≡ 0
  a_good : refusal a ≡ 0
  a_fine : application_refusal (1 ∷ []) (decode a) ≡ 0
  a_is : encode (lattice (1 ∷ []) (decode a)) ≡ a
  ab_fine : composition_refusal a b ≡ 0
  ab_is : encode (composed (decode a) (decode b)).result ≡ one_arc 1 3 11
  applied_good : refusal (one_arc 1 3 11) ≡ 0
  applied_fine : application_refusal (1 ∷ []) (decode (one_arc 1 3 11)) ≡ 0
  cascade_fine : cascade_refusal (any_arc 5) c (7 ∷ []) max_bytes max_origins max_states ≡ 0
  cascade_is : encode (cascade (any_arc 5) c (7 ∷ [])) ≡ one_arc 7 4 11
  third_fine : composition_refusal (one_arc 7 4 11) d ≡ 0

computed : Computed
unfolding any_arc one_arc two four low signed_four signed_low places every framed_from framed records_from records kind_good in_order kinds_good weight_at
    weight_good labels_good
    finals_in arcs_in head_states head_arcs head_finals head_start decode head_good states_good finals_rise sources_stay order_good all_labels_good
    weights_good first_of content_refusal refusal weight_bytes head_record final_record arc_record final_records arc_records encode is_final
    final_weight arc ends by_number each_arc unnamed fits passed has_no_any_input any_refusal or_else there place met served numbered targets arcs_here arcs_from
    finals_from steps_from built built_refusal same_state left_alone right_alone both_step left_steps right_steps steps first_state final_state
    state_weight composed compose_room composition_refusal string_good step arc_steps applied same-position applied-steps final-position application_refusal
    entered some_arc accessible coaccessible useful arc_useful renumbered moved passing kept_finals trimmed lattice
    tables_refusal cascade_refusal
computed =
    record {
      any_good = refl;
      any_fine = refl;
      any_is = refl;
      any_c_fine = refl;
      a_good = refl;
      a_fine = refl;
      a_is = refl;
      ab_fine = refl;
      ab_is = refl;
      applied_good = refl;
      applied_fine = refl;
      cascade_fine = refl;
      cascade_is = refl;
      third_fine = refl;
    }

bytes_all : Bytes (any_arc 5) × Bytes a × Bytes b × Bytes c × Bytes d
unfolding any_arc one_arc every
bytes_all = (all_bytes (any_arc 5) refl, all_bytes a refl, all_bytes b refl, all_bytes c refl, all_bytes d refl)

module _ (t o l s : List ℕ) (long_t : max_bytes ≤ length t) (long_o : max_origins ≤ length o) (long_l : max_arcs ≤ length l)
    (long_s : max_states ≤ length s) where
  abbrev composes : (xs ys : List ℕ) → composition_refusal xs ys ≡ 0 → Composition xs ys
  composes = some_composition t o s long_t long_o long_s

  abbrev applies : (cs zs : List ℕ) → refusal zs ≡ 0 → application_refusal cs (decode zs) ≡ 0 → Application cs zs
  applies = some_application t l s long_t long_l long_s

  calling : (xs ys cs ws : List ℕ) → Bytes xs → Bytes ys → refusal xs ≡ 0 → application_refusal cs (decode xs) ≡ 0
      → encode (lattice cs (decode xs)) ≡ ws → composition_refusal ws ys ≡ 0 → TwoCalls xs ys cs
  calling xs ys cs ws bytes_xs bytes_ys ok fine is well =
      let put : Application cs xs = applies cs xs ok fine in
      record {
        left_bytes = bytes_xs;
        right_bytes = bytes_ys;
        applying = put;
        composing = subst (λ (bs : List ℕ). Composition bs ys) (sym (lattice_bytes_are put ∙ is)) (composes ws ys well);
      }

  -- The left transducer has an arc for any symbol.
  pub some_two_calls : TwoCalls (any_arc 5) c (7 ∷ [])
  some_two_calls =
      calling (any_arc 5) c (7 ∷ []) (one_arc 7 7 5) bytes_all.0 bytes_all.3 computed.any_good computed.any_fine computed.any_is
      computed.any_c_fine

  -- Both orders.
  pub some_both : TwoCalls a b (1 ∷ []) × Chained a b (1 ∷ [])
  some_both =
      let made : Composition a b = composes a b computed.ab_fine in (
        calling a b (1 ∷ []) a bytes_all.1 bytes_all.2 computed.a_good computed.a_fine computed.a_is computed.ab_fine,
        record {
          composing = made;
          applying =
              subst (Application (1 ∷ [])) (sym (composed_bytes_are made ∙ computed.ab_is))
              (applies (1 ∷ []) (one_arc 1 3 11) computed.applied_good computed.applied_fine);
        },
      )

-- The call with the table, for buffers of exactly the lengths that it asks for: the left transducer has an arc for any symbol.
pub some_cascaded : (t o s : List ℕ) → max_bytes ≡ length t → max_origins ≡ length o → max_states ≡ length s → Cascaded (any_arc 5) c (7 ∷ [])
some_cascaded t o s long_t long_o long_s =
    let number : ℕ = cascade_refusal (any_arc 5) c (7 ∷ []) (length t) (length o) (length s) in
    record {
      left_bytes = bytes_all.0;
      right_bytes = bytes_all.3;
      answer = record { refusal = number; len = unless number (length (encode (cascade (any_arc 5) c (7 ∷ [])))) };
      table = t;
      table_left = left_behind number t (encode (cascade (any_arc 5) c (7 ∷ [])));
      origins = o;
      origins_left = left_behind number o (cascade_origins (any_arc 5) c (7 ∷ []));
      states = s;
      states_left = left_behind number s [];
      says = record { refusal_is = refl; len_is = refl; table = refl; origins = refl; work = refl };
      well = rw (← long_t, ← long_o, ← long_s) computed.cascade_fine;
    }

-- A third transducer behind it.
pub some_three : (t o s : List ℕ) → max_bytes ≡ length t → max_origins ≡ length o → max_states ≡ length s → ThreeCascaded (any_arc 5) c d (7 ∷ [])
some_three t o s long_t long_o long_s =
    let inner : Cascaded (any_arc 5) c (7 ∷ []) = some_cascaded t o s long_t long_o long_s in
    let made : Composition (one_arc 7 4 11) d =
    some_composition t o s (omega (arith, long_t)) (omega (arith, long_o)) (omega (arith, long_s)) (one_arc 7 4 11) d computed.third_fine in
    record {
      cascading = inner;
      right_bytes = bytes_all.4;
      composing = subst (λ (bs : List ℕ). Composition bs d) (sym (cascaded_bytes_are inner ∙ computed.cascade_is)) made;
    }
