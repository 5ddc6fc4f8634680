-- A queue of states: a state comes on, the first comes off, and nothing waits where it is empty. Assumes nothing.
use mathlib.Core.Path.{◌≡◌, refl, sym, ap, ◌∙◌}
use mathlib.Core.Bool.{Bool, true, false, cond}
use mathlib.Core.List.{List}
use Prim.Native.Nat.{ℕ, zero, suc, ◌+◌, ◌-◌, ◌≤◌, ◌<◌}
use native.Mathlib.Omega.{arith}
use native.Mathlib.Decide.{ℕ_discrete}
use lib.ListN.{length, get_or, set, replicate, length-set, length-replicate, get_or-replicate}
use lib.Seq.{get_or-set_same, get_or-set_other}
use Rattle.transducer.specs.Format.{max_states}
use Rattle.wire.proofs.Bool.{clash}
use Rattle.reach.specs.Counted.{count}
use Rattle.reach.proofs.Counted.{count_most, count_none, count_before, count_same_below}
use Rattle.relaxation.specs.Queue.{cell, waiting, Queue}

-- One more that has a property.

count_more : (n : ℕ) (f g : ℕ → Bool) (u : ℕ) → u < n → ((s : ℕ) → (s ≡ u → ⊥) → g s ≡ f s) → f u ≡ false → g u ≡ true → count n g ≡ count n f + 1
unfolding count
count_more zero f g u b e p q = absurd (omega arith)
count_more (suc n) f g u b e p q = on (ℕ_discrete n u) (λ c. count_more n f g u c e p q)
  where
    on : Dec (n ≡ u) → (u < n → count n g ≡ count n f + 1) → count n g + cond (g n) 1 0 ≡ count n f + cond (f n) 1 0 + 1
    on (yes i) more = rw (i, p, q, count_same_below u f g (λ s c. e s (λ v. omega arith))) (omega arith)
    on (no i) more = rw (e n i, more (omega arith)) (omega arith)

-- The cells

cell_first : (head : ℕ) → head < max_states → cell head 0 ≡ head
unfolding cell
cell_first head h = omega arith

cell_next : (head k : ℕ) → cell (cell head 1) k ≡ cell head (k + 1)
unfolding cell
cell_next head k = omega arith

cell_other : (head j k : ℕ) → j < k → k < max_states → cell head j ≡ cell head k → ⊥
unfolding cell
cell_other head j k a b e = omega (arith, e)

pub cell_below : (head k : ℕ) → cell head k < max_states
unfolding cell
cell_below head k = omega arith

-- What changes of the marks.

pub mark_here : (waits : List Bool) (s : ℕ) (v : Bool) → s < length waits → waiting (set waits s v) s ≡ v
mark_here waits s v b = get_or-set_same waits s v false b

pub mark_other : (waits : List Bool) (s u : ℕ) (v : Bool) → (u ≡ s → ⊥) → waiting (set waits s v) u ≡ waiting waits u
mark_other waits s u v n = get_or-set_other waits s u v false n

pub queue_few : {n head many : ℕ} {ring : List ℕ} {waits : List Bool} → Queue n ring waits head many → many ≤ n
queue_few {n} {waits = waits} q = omega (arith, q.counted, count_most n (waiting waits))

pub queue_empty : {n head many : ℕ} {ring : List ℕ} {waits : List Bool} → Queue n ring waits head many → many ≤ 0 → (s : ℕ) → s < n → waiting waits s ≡ false
queue_empty {n} {waits = waits} q e s b = on (waiting waits s) refl
  where
    on : (v : Bool) → waiting waits s ≡ v → waiting waits s ≡ false
    on false w = w
    on true w = absurd (omega (arith, q.counted, count_before (waiting waits) s n b w))

pub queue_none : (n : ℕ) {ring : List ℕ} {waits : List Bool} → n ≤ max_states → length ring ≡ max_states → waits ≡ replicate max_states false
    → Queue n ring waits 0 0
queue_none n {ring} {waits} few long e =
    record {
      ring_long = long;
      waits_long = rw e (length-replicate {A = Bool} max_states false);
      head_below = omega arith;
      counted = sym (count_none n (waiting waits) (λ u b. rw e (get_or-replicate {A = Bool} max_states u false false (omega arith))));
      state = λ k c. absurd (omega arith);
      waits_there = λ k c. absurd (omega arith);
      once = λ j k c. absurd (omega arith);
    }

-- A state comes on.

module _ {n head many : ℕ} {ring : List ℕ} {waits : List Bool} (few : n ≤ max_states) (q : Queue n ring waits head many) (s : ℕ) (b : s < n)
    (w : waiting waits s ≡ false) where
  inside : s < length waits
  inside = omega (arith, q.waits_long)

  one_more : count n (waiting (set waits s true)) ≡ count n (waiting waits) + 1
  one_more = count_more n (waiting waits) (waiting (set waits s true)) s b (λ u o. mark_other waits s u true o) w (mark_here waits s true inside)

  pub queue_room : many < n
  queue_room = omega (arith, q.counted, one_more, count_most n (waiting (set waits s true)))

  pub push_here : waiting (set waits s true) s ≡ true
  push_here = mark_here waits s true inside

  pub push_stays : (u : ℕ) → waiting waits u ≡ true → waiting (set waits s true) u ≡ true
  push_stays u e = mark_other waits s u true (λ i. clash {b = waiting waits s} (ap (waiting waits) (sym i) ∙ e) w) ∙ e

  pub queue_push : Queue n (set ring (cell head many) s) (set waits s true) head (many + 1)
  queue_push =
      record {
        ring_long = length-set ring (cell head many) s ∙ q.ring_long;
        waits_long = length-set waits s true ∙ q.waits_long;
        head_below = q.head_below;
        counted = omega (arith, q.counted, one_more);
        state = λ k c. state k c (ℕ_discrete k many);
        waits_there = λ k c. there k c (ℕ_discrete k many);
        once = λ j k c d. once j k c d (ℕ_discrete j many) (ℕ_discrete k many);
      }
    where
      at : ℕ → ℕ
      at k = get_or (set ring (cell head many) s) (cell head k) 0

      last : at many ≡ s
      last = get_or-set_same ring (cell head many) s 0 (omega (arith, cell_below head many, q.ring_long))

      before : (k : ℕ) → k < many → at k ≡ get_or ring (cell head k) 0
      before k c = get_or-set_other ring (cell head many) (cell head k) s 0 (cell_other head k many c (omega (arith, queue_room)))

      state : (k : ℕ) → k < many + 1 → Dec (k ≡ many) → at k < n
      state k c (yes e) = rw (e, last) b
      state k c (no e) = rw (before k (omega arith)) (q.state k (omega arith))

      there : (k : ℕ) → k < many + 1 → Dec (k ≡ many) → waiting (set waits s true) (at k) ≡ true
      there k c (yes e) = rw (e, last) push_here
      there k c (no e) = rw (before k (omega arith)) (push_stays (get_or ring (cell head k) 0) (q.waits_there k (omega arith)))

      -- What waits is another state.
      new : (k : ℕ) → k < many → at k ≡ s → ⊥
      new k c e = clash {b = waiting waits s} (ap (waiting waits) (sym e ∙ before k c) ∙ q.waits_there k c) w

      once : (j k : ℕ) → j < many + 1 → k < many + 1 → Dec (j ≡ many) → Dec (k ≡ many) → at j ≡ at k → j ≡ k
      once j k c d (yes e) (yes f) i = e ∙ sym f
      once j k c d (yes e) (no f) i = absurd (new k (omega arith) (sym i ∙ ap at e ∙ last))
      once j k c d (no e) (yes f) i = absurd (new j (omega arith) (i ∙ ap at f ∙ last))
      once j k c d (no e) (no f) i = q.once j k (omega arith) (omega arith) (sym (before j (omega arith)) ∙ i ∙ before k (omega arith))

-- The first comes off.

module _ {n head many : ℕ} {ring : List ℕ} {waits : List Bool} (few : n ≤ max_states) (q : Queue n ring waits head many) (some : 0 < many) where
  abbrev first : ℕ
  first = get_or ring head 0

  first_is : get_or ring (cell head 0) 0 ≡ first
  first_is = ap (λ (k : ℕ). get_or ring k 0) (cell_first head q.head_below)

  pub pop_waits : waiting waits (get_or ring head 0) ≡ true
  pop_waits = ap (waiting waits) (sym first_is) ∙ q.waits_there 0 some

  pub pop_state : get_or ring head 0 < n
  pop_state = omega (arith, q.state 0 some, first_is)

  pub queue_pop : Queue n ring (set waits (get_or ring head 0) false) (cell head 1) (many - 1)
  queue_pop =
      record {
        ring_long = q.ring_long;
        waits_long = length-set waits first false ∙ q.waits_long;
        head_below = cell_below head 1;
        counted = omega (arith, q.counted, one_less);
        state = λ k c. rw (cell_next head k) (q.state (k + 1) (omega arith));
        waits_there = λ k c.
            rw (cell_next head k)
            (mark_other waits first (get_or ring (cell head (k + 1)) 0) false (other k c) ∙ q.waits_there (k + 1) (omega arith));
        once = λ j k c d e. once j k c d e;
      }
    where
      one_less : count n (waiting waits) ≡ count n (waiting (set waits first false)) + 1
      one_less =
          count_more n (waiting (set waits first false)) (waiting waits) first pop_state (λ u o. sym (mark_other waits first u false o))
          (mark_here waits first false (omega (arith, q.waits_long, pop_state))) pop_waits

      other : (k : ℕ) → k < many - 1 → get_or ring (cell head (k + 1)) 0 ≡ first → ⊥
      other k c e = omega (arith, q.once (k + 1) 0 (omega arith) some (e ∙ sym first_is))

      once : (j k : ℕ) → j < many - 1 → k < many - 1 → get_or ring (cell (cell head 1) j) 0 ≡ get_or ring (cell (cell head 1) k) 0 → j ≡ k
      once j k c d e =
          let e' : get_or ring (cell head (j + 1)) 0 ≡ get_or ring (cell head (k + 1)) 0 = rw (cell_next head j, cell_next head k) at e in
          omega (arith, q.once (j + 1) (k + 1) (omega arith) (omega arith) e')
