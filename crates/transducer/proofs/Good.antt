-- What the tests 3 and 5 to 8 say, as plain facts: `HeadRange` of the head's numbers, `Content` of a transducer. A good one has both, and what has both
-- is good. Assumes nothing.
use Rattle.std.proofs.Common.{◌≡◌, ℕ, ◌<◌, ◌≤◌, true, cond, not, ◌&&◌, ltb, leb, length, get_or, arith, ltb-true, lt-ltb, le-leb, leb-true}
use Rattle.wire.specs.Bytes.{every}
use Rattle.wire.proofs.Places.{every_get_or}
use Rattle.wire.proofs.Bool.{and-true, passed}
use Rattle.transducer.specs.declared.Arc.{Arc}
use Rattle.transducer.specs.declared.Final.{Final}
use Rattle.transducer.specs.Format.{max_states, max_arcs, Transducer, Good, head_good, states_good, order_good, all_labels_good, weights_good}
use Rattle.transducer.specs.Format.{weight_good, labels_good, first_of, content_refusal, finals_rise, sources_stay}
use Rattle.transducer.proofs.Labels.{ShortLabels, good_short}

pub record HeadRange (n m f s : ℕ) : Type 0 where
  pub some : 1 ≤ n
  pub states : n ≤ max_states
  pub arcs : m ≤ max_arcs
  pub finals : f ≤ n
  pub start : s < n

pub head_range : (n m f s : ℕ) → head_good n m f s ≡ true → HeadRange n m f s
unfolding head_good
head_range n m f s h =
    let a = and-true (leb 1 n && leb n max_states) (leb m max_arcs && (leb f n && ltb s n)) h in
    let b = and-true (leb 1 n) (leb n max_states) a.0 in
    let d = and-true (leb m max_arcs) (leb f n && ltb s n) a.1 in
    let e = and-true (leb f n) (ltb s n) d.1 in
    record {
      some = leb-true 1 n b.0;
      states = leb-true n max_states b.1;
      arcs = leb-true m max_arcs d.0;
      finals = leb-true f n e.0;
      start = ltb-true s n e.1;
    }

pub record Content (t : Transducer) : Type 0 where
  pub states : states_good t ≡ true
  pub order : order_good t ≡ true
  pub labels : all_labels_good t ≡ true
  pub weights : weights_good t ≡ true

pub content_good : (t : Transducer) → content_refusal t ≡ 0 → Content t
unfolding content_refusal first_of
content_good t h =
    let a = passed (states_good t) 4 (cond (not (order_good t)) 6 (cond (not (all_labels_good t)) 7 (cond (not (weights_good t)) 8 0))) h in
    let b = passed (order_good t) 5 (cond (not (all_labels_good t)) 7 (cond (not (weights_good t)) 8 0)) a.1 in
    let c = passed (all_labels_good t) 6 (cond (not (weights_good t)) 8 0) b.1 in
    let d = passed (weights_good t) 7 0 c.1 in
    record { states = a.0; order = b.0; labels = c.0; weights = d.0 }

pub good_tests : (t : Transducer) → Good t → Content t
good_tests t g = content_good t g.content

pub tests_good : (t : Transducer) → HeadRange t.states (length t.arcs) (length t.finals) t.start → Content t → Good t
unfolding head_good content_refusal first_of
tests_good t r c =
    record {
      head =
          rw (
            le-leb 1 t.states r.some,
            le-leb t.states max_states r.states,
            le-leb (length t.arcs) max_arcs r.arcs,
            le-leb (length t.finals) t.states r.finals,
            lt-ltb t.start t.states r.start,
          );
      content = rw (c.states, c.order, c.labels, c.weights);
    }

module _ (t : Transducer) (good : Content t) where
  pub finals_rise_good : finals_rise 0 t.finals ≡ true
  unfolding order_good
  finals_rise_good = (and-true (finals_rise 0 t.finals) (sources_stay 0 t.arcs) good.order).0

  pub sources_stay_good : sources_stay 0 t.arcs ≡ true
  unfolding order_good
  sources_stay_good = (and-true (finals_rise 0 t.finals) (sources_stay 0 t.arcs) good.order).1

  pub finals_inside : every (λ f. ltb f.state t.states) t.finals ≡ true
  unfolding states_good
  finals_inside =
      (and-true (every (λ f. ltb f.state t.states) t.finals)
      (every (λ a. ltb a.source t.states && ltb a.target t.states) t.arcs) good.states).0

  pub arcs_inside : every (λ a. ltb a.source t.states && ltb a.target t.states) t.arcs ≡ true
  unfolding states_good
  arcs_inside =
      (and-true (every (λ f. ltb f.state t.states) t.finals)
      (every (λ a. ltb a.source t.states && ltb a.target t.states) t.arcs) good.states).1

  pub final_state_below : (i : ℕ) (d : Final) → i < length t.finals → (get_or t.finals i d).state < t.states
  final_state_below i d l =
      ltb-true (get_or t.finals i d).state t.states (every_get_or (λ f. ltb f.state t.states) t.finals i d finals_inside l)

  pub arc_states_below : (i : ℕ) (d : Arc) → i < length t.arcs → ((get_or t.arcs i d).source < t.states) × ((get_or t.arcs i d).target < t.states)
  arc_states_below i d l =
      let a : Arc = get_or t.arcs i d in
      let both = and-true (ltb a.source t.states) (ltb a.target t.states)
      (every_get_or (λ a. ltb a.source t.states && ltb a.target t.states) t.arcs i d arcs_inside l) in
      (ltb-true a.source t.states both.0, ltb-true a.target t.states both.1)

  pub arc_labels_below : (i : ℕ) (d : Arc) → i < length t.arcs → ((get_or t.arcs i d).input < 65536) × ((get_or t.arcs i d).output < 65536)
  unfolding all_labels_good
  arc_labels_below i d l =
      let a : Arc = get_or t.arcs i d in
      let short : ShortLabels a.input a.output =
      good_short a.input a.output (every_get_or (λ a. labels_good a.input a.output) t.arcs i d good.labels l) in
      (omega (arith, short.read), omega (arith, short.written))

  pub finals_light : every (λ f. weight_good f.weight) t.finals ≡ true
  unfolding weights_good
  finals_light = (and-true (every (λ f. weight_good f.weight) t.finals) (every (λ a. weight_good a.weight) t.arcs) good.weights).0

  pub arcs_light : every (λ a. weight_good a.weight) t.arcs ≡ true
  unfolding weights_good
  arcs_light = (and-true (every (λ f. weight_good f.weight) t.finals) (every (λ a. weight_good a.weight) t.arcs) good.weights).1

  pub final_light : (i : ℕ) (d : Final) → i < length t.finals → weight_good (get_or t.finals i d).weight ≡ true
  final_light i d l = every_get_or (λ f. weight_good f.weight) t.finals i d finals_light l

  pub arc_light : (i : ℕ) (d : Arc) → i < length t.arcs → weight_good (get_or t.arcs i d).weight ≡ true
  arc_light i d l = every_get_or (λ a. weight_good a.weight) t.arcs i d arcs_light l
