-- The walk along the k-th path with the arc numbers put into a buffer: at a state (`Walked`), and among the arcs of a state (`Chosen`). Assumes nothing.
use mathlib.Core.Path.{◌≡◌, ◌∙◌}
use mathlib.Core.Bool.{false}
use mathlib.Core.List.{List, [], ◌∷◌, ◌++◌}
use Prim.Native.Nat.{ℕ, suc, ◌+◌, ◌-◌, ◌≤◌, ◌<◌}
use native.Mathlib.Omega.{arith}
use native.Mathlib.Decide.{dec_le}
use lib.ListN.{length, set, take, length-set, length-append}
use lib.Seq.{length-take-le, take-suc-set}
use Rattle.wire.specs.Bytes.{cleared, filled}
use Rattle.transducer.specs.Format.{Transducer}
use Rattle.transducer.specs.Path.{arc}
use Rattle.capped.specs.declared.Count.{Count}
use Rattle.paths.specs.Count.{endless, path_count, nth_path}
use Rattle.paths.specs.Tally.{own}
use Rattle.paths.specs.Sweep.{at_state, PathCounts}
use Rattle.paths.proofs.Sweep.{Counts, settled_counts}
use Rattle.paths.proofs.NthPath.{nth_path_short}
use Rattle.paths.proofs.Walk.{Walking, walking_first, walking_length, walking_done, walking_on}
use Rattle.paths.proofs.Walk.{Choosing, choosing_below, choosing_skip, choosing_past, choosing_by}
use Rattle.paths.proofs.Ready.{Sized, Range, range_leaves, before_range, behind_range}

-- What is walked for: a path that is there, with the counts to find it by, and room for it.
pub record Sought (t : Transducer) (k : ℕ) (cs : List Count) (room : ℕ) : Type 0 where
  pub size : Sized t
  pub settled : PathCounts t cs
  pub finite : endless t ≡ false
  pub there : k < path_count t
  pub enough : 1023 ≤ room

-- At a state: n arcs are walked.
pub record Walked (t : Transducer) (k room : ℕ) (arcs : List ℕ) (s left n : ℕ) : Type 0 where
  pub long : length arcs ≡ room
  pub few : n ≤ 1023
  pub walking : Walking t (nth_path t k) (take n arcs) s left

-- Among the arcs of a state: those before i are passed over.
pub record Chosen (t : Transducer) (k : ℕ) (arcs : List ℕ) (s left n i : ℕ) : Type 0 where
  pub from : ℕ
  pub to : ℕ
  pub range : Range t s from to
  pub low : from ≤ i
  pub choosing : Choosing t (nth_path t k) (take n arcs) s left i

module _ (t : Transducer) (k : ℕ) (cs : List Count) (room : ℕ) (sought : Sought t k cs room) where
  path_short : length (nth_path t k) ≤ 1023
  path_short = omega (arith, nth_path_short t sought.size.within sought.finite k sought.there, sought.size.states)

  counted : Counts t (at_state cs)
  counted = settled_counts t cs sought.settled

  pub walked_first : (arcs : List ℕ) (start : ℕ) → length arcs ≡ room → start ≡ t.start → Walked t k room arcs start k 0
  walked_first arcs start long e =
      record { long = long; few = omega arith; walking = rw e (walking_first t sought.size.within sought.finite k sought.there) }

  pub walked_state : (arcs : List ℕ) (s left n : ℕ) → Walked t k room arcs s left n → (s < t.states) × (s < 1024)
  walked_state arcs s left n w = (w.walking.finite.below, omega (arith, w.walking.finite.below, sought.size.states))

  pub walked_done : (arcs : List ℕ) (s left n mine : ℕ) → Walked t k room arcs s left n → mine ≡ own t s → left < mine
      → (cleared n arcs ≡ filled room (nth_path t k)) × (n ≡ length (nth_path t k))
  unfolding cleared filled
  walked_done arcs s left n mine w e h =
      let done : nth_path t k ≡ take n arcs = walking_done t (nth_path t k) (take n arcs) s left w.walking (rw e at h) in
      let long : length (take n arcs) ≡ n = length-take-le n arcs (omega (arith, w.long, w.few, sought.enough)) in
      (rw (done, long, w.long), rw (done, long))

  pub chosen_first : (arcs : List ℕ) (s left n from to mine : ℕ) → Walked t k room arcs s left n → mine ≡ own t s → mine ≤ left → Range t s from to
      → Chosen t k arcs s (left - mine) n from
  chosen_first arcs s left n from to mine w e h' r =
      let h : own t s ≤ left = omega arith in
      let zero' : 0 + from ≡ from = omega arith in
      let at_0 : Choosing t (nth_path t k) (take n arcs) s (left - own t s) 0 =
      walking_on t sought.size.within (nth_path t k) (take n arcs) s left w.walking h in
      record {
        from = from;
        to = to;
        range = r;
        low = omega arith;
        choosing =
            rw e (rw zero' at (choosing_skip t (nth_path t k) (take n arcs) s (left - own t s) 0 from at_0
            (λ j a b. before_range t sought.size.content s from to r j (omega arith))));
      }

  pub chosen_below : (arcs : List ℕ) (s left n i : ℕ) → Chosen t k arcs s left n i → i < length t.arcs
  chosen_below arcs s left n i c = choosing_below t (nth_path t k) (take n arcs) s left i c.choosing

  chosen_leaves : (arcs : List ℕ) (s left n i : ℕ) → Chosen t k arcs s left n i → (arc t i).source ≡ s
  chosen_leaves arcs s left n i c = range_leaves t sought.size.content s c.from c.to c.range i c.low (inside (dec_le c.to i))
    where
      inside : Dec (c.to ≤ i) → i < c.to
      inside (no q) = omega arith
      inside (yes y) =
          let m : ℕ = length t.arcs - i in
          let b : i < length t.arcs = chosen_below arcs s left n i c in
          let end : i + m ≡ length t.arcs = omega arith in
          let behind : Choosing t (nth_path t k) (take n arcs) s left (i + m) =
          choosing_skip t (nth_path t k) (take n arcs) s left i m c.choosing
          (λ j a l. behind_range t sought.size.content s c.from c.to c.range j (omega arith) (omega arith)) in
          let past : i + m < length t.arcs = choosing_below t (nth_path t k) (take n arcs) s left (i + m) behind in
          absurd (omega arith)

  pub chosen_past : (arcs : List ℕ) (s left n i u : ℕ) → Chosen t k arcs s left n i → u ≡ (arc t i).target → at_state cs u ≤ left
      → Chosen t k arcs s (left - at_state cs u) n (i + 1)
  chosen_past arcs s left n i u c e h =
      let one : i + 1 ≡ suc i = omega arith in
      record {
        from = c.from;
        to = c.to;
        range = c.range;
        low = omega (arith, c.low);
        choosing =
            rw (one, e) (choosing_past t sought.size.within (at_state cs) counted (nth_path t k) (take n arcs) s left i c.choosing
            (chosen_leaves arcs s left n i c) (rw e at h));
      }

  chosen_walking : (arcs : List ℕ) (s left n i u : ℕ) → Chosen t k arcs s left n i → u ≡ (arc t i).target → left < at_state cs u
      → Walking t (nth_path t k) (take n arcs ++ (i ∷ [])) u left
  chosen_walking arcs s left n i u c e h =
      rw e (choosing_by t sought.size.within (at_state cs) counted (nth_path t k) (take n arcs) s left i c.choosing
      (chosen_leaves arcs s left n i c) (rw e at h))

  -- There is room for the arc that is chosen.
  pub chosen_room : (arcs : List ℕ) (s left n i u s' left' : ℕ) → Walked t k room arcs s' left' n → Chosen t k arcs s left n i
      → u ≡ (arc t i).target → left < at_state cs u → n < 1023
  chosen_room arcs s left n i u s' left' w c e h =
      let long : length (take n arcs) ≡ n = length-take-le n arcs (omega (arith, w.long, w.few, sought.enough)) in
      let more : length (take n arcs ++ (i ∷ [])) ≡ length (take n arcs) + 1 = length-append (take n arcs) (i ∷ []) in
      let within : length (take n arcs ++ (i ∷ [])) ≤ length (nth_path t k) =
      walking_length t (nth_path t k) (take n arcs ++ (i ∷ [])) u left (chosen_walking arcs s left n i u c e h) in
      omega (arith, path_short)

  pub walked_next : (arcs : List ℕ) (s left n i u s' left' : ℕ) → Walked t k room arcs s' left' n → Chosen t k arcs s left n i
      → u ≡ (arc t i).target → left < at_state cs u → Walked t k room (set arcs n i) u left (n + 1)
  walked_next arcs s left n i u s' left' w c e h =
      let free : n < 1023 = chosen_room arcs s left n i u s' left' w c e h in
      let one : n + 1 ≡ suc n = omega arith in
      let stored : take (suc n) (set arcs n i) ≡ take n arcs ++ (i ∷ []) = take-suc-set arcs n i (omega (arith, w.long, sought.enough)) in
      record {
        long = length-set arcs n i ∙ w.long;
        few = omega arith;
        walking = rw (one, stored) (chosen_walking arcs s left n i u c e h);
      }
