-- Arcs read in place from accepted bytes. Assumes nothing.
use Rattle.std.proofs.Common.{◌≡◌, ℕ, ◌+◌, ◌*◌, ◌<◌, ◌≤◌, true, List, length, ap, arith}
use Rattle.wire.specs.Bytes.{Bytes, two}
use Rattle.transducer.specs.declared.Arc.{Arc}
use Rattle.transducer.specs.Format.{arc_bytes, max_arcs, max_states, Good, decode, arc_at, weight_good}
use Rattle.transducer.specs.Path.{arc}
use Rattle.transducer.specs.Accepted.{AcceptedAt}
use Rattle.transducer.proofs.Offsets.{arc_offset, length_accepted, length_arcs}
use Rattle.transducer.proofs.RoundTrip.{accepted_good, good_range, good_content}

module _ (bs : List ℕ) (bytes : Bytes bs) (first : ℕ) (opened : AcceptedAt bs first) where
  pub opened_inside : (j : ℕ) → j ≤ length (decode bs).arcs → first + arc_bytes * j ≤ length bs
  opened_inside j h = omega (arith, opened.first_is, length_accepted bs bytes opened.accepted, length_arcs bs bytes opened.accepted)

  pub opened_arc : (j : ℕ) → j < length (decode bs).arcs → arc (decode bs) j ≡ arc_at bs (first + arc_bytes * j)
  opened_arc j h = rw opened.first_is (arc_offset bs bytes opened.accepted j h)

  pub source_in_place : (j : ℕ) → j < length (decode bs).arcs → (arc (decode bs) j).source ≡ two bs (first + arc_bytes * j + 4)
  unfolding arc_at
  source_in_place j h = ap (λ (a : Arc). a.source) (opened_arc j h)

  pub input_in_place : (j : ℕ) → j < length (decode bs).arcs → (arc (decode bs) j).input ≡ two bs (first + arc_bytes * j + 6)
  unfolding arc_at
  input_in_place j h = ap (λ (a : Arc). a.input) (opened_arc j h)

  pub output_in_place : (j : ℕ) → j < length (decode bs).arcs → (arc (decode bs) j).output ≡ two bs (first + arc_bytes * j + 8)
  unfolding arc_at
  output_in_place j h = ap (λ (a : Arc). a.output) (opened_arc j h)

  pub opened_few : length (decode bs).arcs ≤ max_arcs
  opened_few = (good_range (decode bs) (accepted_good bs bytes opened.accepted)).arcs

  pub opened_target : (j : ℕ) → j < length (decode bs).arcs → (arc (decode bs) j).target < max_states
  opened_target j h =
      let good : Good (decode bs) = accepted_good bs bytes opened.accepted in
      omega (arith, (good_content (decode bs) good).target j h, (good_range (decode bs) good).states)

  pub opened_weight : (j : ℕ) → j < length (decode bs).arcs → weight_good (arc (decode bs) j).weight ≡ true
  opened_weight j h = (good_content (decode bs) (accepted_good bs bytes opened.accepted)).weight j h
