-- How the cases of a table are computed: the definitions that they compute with, and tables one behind the other.
-- Assumes nothing.
use mathlib.Core.Path.{sym, ap₂, ◌∙◌}
use mathlib.Core.List.{List, ◌++◌, map-append}
use Prim.Native.Nat.{ℕ}
use Rattle.wire.specs.Bytes.{two, four, low, signed_four, signed_low, places, every}
use Rattle.transducer.specs.Format.{framed_from, framed, records_from, records, kind_good, in_order, kinds_good}
use Rattle.transducer.specs.Format.{weight_at, weight_good, labels_good, finals_in, arcs_in}
use Rattle.transducer.specs.Format.{head_states, head_arcs, head_finals, head_start, decode, head_good, states_good, finals_rise, sources_stay, order_good}
use Rattle.transducer.specs.Format.{all_labels_good, weights_good, first_of, content_refusal, refusal}
use Rattle.transducer.specs.Encode.{weight_bytes, head_record, final_record, arc_record, final_records, arc_records, encode}
use Rattle.transducer.specs.Path.{is_final, final_weight, arc, ends, non_empty, written_by, arcs_cost, path_cost}
use Rattle.transducer.specs.Each.{by_number, each_arc, unnamed, fits, passed, has_no_any_input, any_refusal}
use Rattle.transducer.specs.Entry.{or_else}
use Rattle.codec.specs.Entry.{arc_fields, read_room, read_refusal}
use Rattle.explore.specs.Explore.{there, place, met, served, numbered, targets, arcs_here, arcs_from, finals_from, steps_from, built}
use Rattle.explore.specs.Explore.{built_refusal, keeps}
use Rattle.explore.specs.Walk.{all_origins}
use Rattle.steps.specs.Steps.{same_state, left_alone, right_alone, both_step, left_steps, right_steps, steps, first_state, left_origin, right_origin}
use Rattle.steps.specs.Steps.{origin_pair}
use Rattle.compose.specs.Compose.{final_state, state_weight, composed}
use Rattle.compose.specs.Entry.{origin_pairs, compose_room, compose_refusal, composition_refusal}
use Rattle.lattice.specs.Apply.{string_good, step, arc_steps, applied}
use Rattle.lattice.specs.Apply.{same_state as same-position, steps as applied-steps, final_state as final-position}
use Rattle.reach.specs.Reach.{entered, accessible, coaccessible, some_arc}
use Rattle.trim.specs.Passing.{passing, passing_numbers}
use Rattle.trim.specs.Trim.{useful, arc_useful, renumbered, moved, kept_finals, trimmed, origins_kept}
use Rattle.lattice.specs.Lattice.{lattice, lattice_origins}
use Rattle.lattice.specs.ApplyEntry.{apply_room, apply_refusal, application_refusal}
use Rattle.paths.specs.Count.{before, paths_from, paths, goes_on, endless, path_count, nth_path}
use Rattle.paths.specs.Entry.{count_refusal, nth_refusal}
use Rattle.cycles.specs.Costs.{cost_from}
use Rattle.cycles.specs.Cycles.{some_leaving, negative_run, negative_cycle_at, some_below, negative_cycle_among, negative_cycle, negative_cycle_anywhere}
use Rattle.distance.specs.Distance.{lesser, least_of, least_to_come}
use Rattle.distance.specs.Entry.{costs_refusal, costs_to_come}
use Rattle.relax.specs.Size.{size_of, nearer}
use Rattle.shortest.specs.Shortest.{nearer_path, better, best_of, best, shortest}
use Rattle.shortest.specs.Entry.{shortest_refusal}
use Rattle.listing.specs.Code.{labels_in}
use Rattle.listing.specs.Text.{digits, decimal, cost_text, readings_word, labels_text, line, line_of, lines, counted_text, listing_text}
use Rattle.listing.specs.Entry.{applied_refusal, text_unless, listing_refusal, text_of}
use Rattle.starred.specs.Answer.{Case, AllHold, or_refused, built_or_refused, read_answer, write_answer, path_answer, defined}

-- All of them under one name: a proof that says `unfolding definitions` computes with each. The number that it is has no meaning.
unfoldable pub definitions : ℕ
unfolding two four low signed_four signed_low places every framed_from framed records_from records kind_good in_order kinds_good weight_at weight_good
    labels_good finals_in arcs_in head_states head_arcs head_finals head_start decode head_good states_good finals_rise sources_stay order_good
    all_labels_good weights_good first_of content_refusal refusal weight_bytes head_record final_record arc_record final_records arc_records encode
    is_final final_weight arc ends non_empty written_by arcs_cost path_cost by_number each_arc unnamed fits passed has_no_any_input any_refusal or_else arc_fields
    read_room read_refusal there place met served numbered targets arcs_here arcs_from finals_from steps_from built built_refusal all_origins same_state
    left_alone right_alone both_step left_steps right_steps steps first_state final_state state_weight composed left_origin right_origin origin_pair
    origin_pairs compose_room compose_refusal composition_refusal string_good step arc_steps applied same-position applied-steps final-position entered
    some_arc accessible coaccessible useful arc_useful renumbered moved passing passing_numbers kept_finals trimmed origins_kept lattice lattice_origins
    apply_room apply_refusal application_refusal before paths_from paths goes_on endless path_count nth_path count_refusal nth_refusal size_of nearer
    nearer_path better best_of best shortest some_leaving negative_run negative_cycle_at some_below negative_cycle_among negative_cycle
    shortest_refusal labels_in digits
    decimal cost_text readings_word labels_text line line_of lines counted_text listing_text applied_refusal text_unless listing_refusal text_of
    or_refused built_or_refused keeps read_answer write_answer path_answer defined negative_cycle_anywhere cost_from lesser least_of least_to_come
    costs_refusal costs_to_come
definitions = 0

-- Tables that hold, one behind the other.
pub together : (cs ds : List Case) → AllHold cs → AllHold ds → AllHold (cs ++ ds)
together cs ds h k = map-append (λ c. defined c.call) cs ds ∙ ap₂ ◌++◌ h k ∙ sym (map-append (λ c. c.answer) cs ds)
