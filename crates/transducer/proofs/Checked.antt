-- The tests of `Check`, gathered one record at a time, say what 5 to 8 ask of a transducer.
--     left_first, left_next, left_stop        a loop over records, of which what is left equals the whole
--     finals_gathered, arcs_gathered          what the tests of finals, and of arcs, add to those before
--     content_checked                         the tests of both, wherever they stand, are those of the transducer that they make
--     all_checked_content                     the same in bytes
-- Assumes nothing.
use Rattle.std.proofs.Common.{◌≡◌, ℕ, zero, suc, ◌+◌, ◌-◌, ◌*◌, ◌<◌, ◌≤◌, Bool, true, ◌&&◌, eqb, ltb, leb, List, sym, refl, ◌∙◌, mul-zero, mul-suc, add-one, arith}
use mathlib.Core.Bool.{and_assoc, and-true}
use native.Mathlib.Nat.{sub-zero}
use Rattle.wire.specs.Bytes.{four, places, every}
use Rattle.transducer.specs.declared.Arc.{Arc}
use Rattle.transducer.specs.declared.Final.{Final}
use Rattle.transducer.specs.declared.Checks.{Checks}
use Rattle.transducer.specs.Format.{head_bytes, final_bytes, arcs_at}
use Rattle.transducer.specs.Format.{Transducer, weight_good, labels_good, final_at, arc_at, finals_rise, sources_stay, states_good, order_good}
use Rattle.transducer.specs.Format.{all_labels_good, weights_good, first_of, content_refusal}
use Rattle.transducer.specs.Check.{final_checked, arc_checked, finals_checked, arcs_checked, from_0, all_checked, none_failed, final_word, arc_word}

-- A loop over `count` records, the first at `at`, each `step` past the one before, when it has passed i of them.
-- `fold 1` is one turn.
pub record Left (fold : (count at : ℕ) → Checks → Checks) (count at step : ℕ) (c : Checks) (i place : ℕ) (checks : Checks) : Type 0 where
  pub passed : i ≤ count
  pub place_is : place ≡ at + step * i
  pub same : fold (count - i) place checks ≡ fold count at c

module _ {fold : (count at : ℕ) → Checks → Checks} {count at step : ℕ} {c : Checks} where
  pub left_first : Left fold count at step c 0 at c
  left_first =
      record {
        passed = omega arith;
        place_is = omega (arith, mul-zero step);
        same = rw sub-zero;
      }

  pub left_next : {i place : ℕ} {checks : Checks} → ((k p : ℕ) (d : Checks) → fold (suc k) p d ≡ fold k (p + step) (fold 1 p d)) →
      Left fold count at step c i place checks → i < count → Left fold count at step c (i + 1) (place + step) (fold 1 place checks)
  left_next {i} {place} {checks} more l h =
      let e : count - i ≡ suc (count - (i + 1)) = omega arith in
      record {
        passed = omega arith;
        place_is = rw (add-one, mul-suc) (omega (arith, l.place_is));
        same = sym (more (count - (i + 1)) place checks) ∙ (rw e at l.same);
      }

  pub left_stop : {i place : ℕ} {checks : Checks} → ((p : ℕ) (d : Checks) → fold 0 p d ≡ d) → Left fold count at step c i place checks → count ≤ i →
      checks ≡ fold count at c
  left_stop {i} {place} {checks} none l h =
      let e : count - i ≡ 0 = omega arith in
      sym (none place checks) ∙ (rw e at l.same)

-- From tests c to tests d these have been added.
pub record Gathered (c d : Checks) (heads states order labels weights : Bool) : Type 0 where
  pub heads_are : d.heads ≡ c.heads && heads
  pub states_are : d.states ≡ c.states && states
  pub order_is : d.order ≡ c.order && order
  pub labels_are : d.labels ≡ c.labels && labels
  pub weights_are : d.weights ≡ c.weights && weights

-- The floor is no test.
gathered_none : (c : Checks) (floor : ℕ) →
    Gathered c
    (record { heads = c.heads; states = c.states; order = c.order; labels = c.labels; weights = c.weights; floor = floor })
    true true true true true
gathered_none c floor =
    record {
      heads_are = sym (and-true c.heads);
      states_are = sym (and-true c.states);
      order_is = sym (and-true c.order);
      labels_are = sym (and-true c.labels);
      weights_are = sym (and-true c.weights);
    }

gathered_more : {c d e : Checks} {h s o l w h' s' o' l' w' : Bool} → Gathered c d h s o l w → Gathered d e h' s' o' l' w' →
    Gathered c e (h && h') (s && s') (o && o') (l && l') (w && w')
gathered_more p q =
    record {
      heads_are = rw (q.heads_are, p.heads_are, and_assoc);
      states_are = rw (q.states_are, p.states_are, and_assoc);
      order_is = rw (q.order_is, p.order_is, and_assoc);
      labels_are = rw (q.labels_are, p.labels_are, and_assoc);
      weights_are = rw (q.weights_are, p.weights_are, and_assoc);
    }

pub finals_gathered : (k at s n : ℕ) (word : ℕ → ℕ) (final : ℕ → Final) (c : Checks) →
    Gathered c (finals_checked k at s n word final c) (every (λ w. eqb w final_word) (places k at s word))
    (every (λ f. ltb f.state n) (places k at s final)) (finals_rise c.floor (places k at s final)) true
    (every (λ f. weight_good f.weight) (places k at s final))
unfolding finals_checked final_checked places every finals_rise
finals_gathered zero at s n word final c = gathered_none c c.floor
finals_gathered (suc k) at s n word final c =
    let d = final_checked n (word at) (final at) c in
    let first : Gathered c d (eqb (word at) final_word) (ltb (final at).state n) (leb c.floor (final at).state) true (weight_good (final at).weight) =
    record { heads_are = refl; states_are = refl; order_is = refl; labels_are = sym (and-true c.labels); weights_are = refl } in
    gathered_more first (finals_gathered k (at + s) s n word final d)

pub arcs_gathered : (k at s n : ℕ) (word : ℕ → ℕ) (arc : ℕ → Arc) (c : Checks) →
    Gathered c (arcs_checked k at s n word arc c) (every (λ w. eqb w arc_word) (places k at s word))
    (every (λ a. ltb a.source n && ltb a.target n) (places k at s arc)) (sources_stay c.floor (places k at s arc))
    (every (λ a. labels_good a.input a.output) (places k at s arc)) (every (λ a. weight_good a.weight) (places k at s arc))
unfolding arcs_checked arc_checked places every sources_stay
arcs_gathered zero at s n word arc c = gathered_none c c.floor
arcs_gathered (suc k) at s n word arc c =
    let d = arc_checked n (word at) (arc at) c in
    let first : Gathered c d (eqb (word at) arc_word) (ltb (arc at).source n && ltb (arc at).target n) (leb c.floor (arc at).source)
    (labels_good (arc at).input (arc at).output) (weight_good (arc at).weight) =
    record { heads_are = refl; states_are = refl; order_is = refl; labels_are = refl; weights_are = refl } in
    gathered_more first (arcs_gathered k (at + s) s n word arc d)

-- The tests of f finals and then of m arcs, each kind at places of its own.
module _ (n f at s m at' s' : ℕ) (word word' : ℕ → ℕ) (final : ℕ → Final) (arc : ℕ → Arc) where
  abbrev finals : Checks
  finals = finals_checked f at s n word final none_failed

  abbrev all : Checks
  all = arcs_checked m at' s' n word' arc (from_0 finals)

  pub all_gathered :
      Gathered none_failed all (every (λ w. eqb w final_word) (places f at s word) && every (λ w. eqb w arc_word) (places m at' s' word'))
      (every (λ x. ltb x.state n) (places f at s final) && every (λ a. ltb a.source n && ltb a.target n) (places m at' s' arc))
      (finals_rise 0 (places f at s final) && sources_stay 0 (places m at' s' arc))
      (every (λ a. labels_good a.input a.output) (places m at' s' arc))
      (every (λ x. weight_good x.weight) (places f at s final) && every (λ a. weight_good a.weight) (places m at' s' arc))
  unfolding from_0
  all_gathered =
      gathered_more (finals_gathered f at s n word final none_failed)
      (gathered_more (gathered_none finals 0) (arcs_gathered m at' s' n word' arc (from_0 finals)))

  pub content_checked : (t : Transducer) → t.states ≡ n → t.finals ≡ places f at s final → t.arcs ≡ places m at' s' arc →
      first_of all.states all.order all.labels all.weights ≡ content_refusal t
  unfolding content_refusal states_good order_good all_labels_good weights_good
  content_checked t e e' e'' =
      let g = all_gathered in
      rw (e, e', e'', g.states_are, g.order_is, g.labels_are, g.weights_are)

-- In bytes, at the places that f finals and m arcs give.
module _ (bs : List ℕ) (n m f : ℕ) where
  pub all_checked_heads : (all_checked bs n m f).heads
      ≡ every (λ w. eqb w final_word) (places f head_bytes final_bytes (four bs)) && every (λ w. eqb w arc_word) (places m (arcs_at f) 16 (four bs))
  unfolding all_checked
  all_checked_heads = (all_gathered n f head_bytes final_bytes m (arcs_at f) 16 (four bs) (four bs) (final_at bs) (arc_at bs)).heads_are

  pub all_checked_content : (t : Transducer) → t.states ≡ n → t.finals ≡ places f head_bytes final_bytes (final_at bs) →
      t.arcs ≡ places m (arcs_at f) 16 (arc_at bs) →
      first_of (all_checked bs n m f).states (all_checked bs n m f).order (all_checked bs n m f).labels (all_checked bs n m f).weights
      ≡ content_refusal t
  unfolding all_checked
  all_checked_content = content_checked n f head_bytes final_bytes m (arcs_at f) 16 (four bs) (four bs) (final_at bs) (arc_at bs)
