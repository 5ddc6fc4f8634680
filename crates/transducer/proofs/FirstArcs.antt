-- The two loops that make the first-arc index: the first marks the arcs one after the other, `Summed` says how far the second has come.
-- Assumes nothing.
use Rattle.std.proofs.Common.{◌≡◌, ℕ, zero, suc, ◌+◌, ◌*◌, ◌<◌, ◌≤◌, max, true, List, [], ◌∷◌, ◌++◌, length, get_or, take, set, replicate, sym, refl, ap, ◌∙◌, add-one, arith, length-set, take_all, get_or-set_other, get_or-set_same}
use native.Mathlib.Decide.{ℕ_discrete, dec_le}
use lib.ListN.{length-replicate, get_or-replicate}
use lib.Seq.{take-suc, length-take-le}
use Rattle.wire.specs.Bytes.{Bytes, two}
use Rattle.transducer.specs.declared.Arc.{Arc}
use Rattle.transducer.specs.Format.{arc_bytes, arcs_at, index_long, max_arcs, max_states}
use Rattle.transducer.specs.Format.{Transducer, decode, sources_stay, head_arcs, head_finals, arc_at}
use Rattle.transducer.specs.Path.{arc, no_arc}
use Rattle.transducer.specs.Accepted.{AcceptedAt, arcs_below, EndsMarked, Indexed}
use Rattle.transducer.proofs.Good.{sources_stay_good, arc_states_below}
use Rattle.transducer.proofs.Index.{arcs_below_append, arcs_below_zero, arcs_below_length, arcs_below_lt, arcs_below_ge, stay_rises, stay_take}
use Rattle.transducer.proofs.Index.{stay_before}
use Rattle.transducer.proofs.Offsets.{length_accepted, decode_states, length_arcs, arc_offset, accepted_within, accepted_good}

-- The first loop

pub marked_none : EndsMarked [] (replicate index_long 0)
unfolding arcs_below
marked_none =
    record {
      long = length-replicate {A = ℕ} index_long 0;
      at_first = get_or-replicate {A = ℕ} index_long 0 0 0 (omega arith);
      at_state = λ s h. omega (arith, get_or-replicate {A = ℕ} index_long (suc s) 0 0 (omega arith));
    }

pub marked_more : (xs : List Arc) (a : Arc) (index : List ℕ) → sources_stay 0 (xs ++ (a ∷ [])) ≡ true → a.source < max_states → EndsMarked xs index →
    EndsMarked (xs ++ (a ∷ [])) (set index (suc a.source) (suc (length xs)))
unfolding arcs_below
marked_more xs a index stay below m =
    record {
      long = length-set index (suc a.source) (suc (length xs)) ∙ m.long;
      at_first = get_or-set_other index (suc a.source) 0 (suc (length xs)) 0 (λ e. omega arith) ∙ m.at_first;
      at_state = λ s h. rw (arcs_below_append s xs (a ∷ []), arcs_below_append (suc s) xs (a ∷ [])) (on s h (ℕ_discrete s a.source) (dec_le s a.source));
    }
  where
    on : (s : ℕ) → s < max_states → Dec (s ≡ a.source) → Dec (s ≤ a.source) →
        max (arcs_below s xs + arcs_below s (a ∷ [])) (get_or (set index (suc a.source) (suc (length xs))) (suc s) 0)
        ≡ arcs_below (suc s) xs + arcs_below (suc s) (a ∷ [])
    on s h (yes e) (yes y) =
        let stored : get_or (set index (suc a.source) (suc (length xs))) (suc s) 0 ≡ suc (length xs) =
        rw e (get_or-set_same index (suc a.source) (suc (length xs)) 0 (omega (arith, m.long))) in
        omega (
          arith,
          stored,
          arcs_below_ge s a [] (omega arith),
          arcs_below_lt (suc s) a [] (omega arith),
          arcs_below_length s xs,
          stay_before 0 (suc s) xs a stay (omega arith),
        )
    on s h (yes e) (no n) = absurd (omega arith)
    on s h (no n) (yes y) =
        let kept : get_or (set index (suc a.source) (suc (length xs))) (suc s) 0 ≡ get_or index (suc s) 0 =
        get_or-set_other index (suc a.source) (suc s) (suc (length xs)) 0 (λ e. n (omega arith)) in
        omega (arith, kept, m.at_state s h, arcs_below_ge s a [] (omega arith), arcs_below_ge (suc s) a [] (omega arith))
    on s h (no n) (no k) =
        let kept : get_or (set index (suc a.source) (suc (length xs))) (suc s) 0 ≡ get_or index (suc s) 0 =
        get_or-set_other index (suc a.source) (suc s) (suc (length xs)) 0 (λ e. n (omega arith)) in
        omega (
          arith,
          kept,
          m.at_state s h,
          arcs_below_lt s a [] (omega arith),
          arcs_below_lt (suc s) a [] (omega arith),
          stay_before 0 s xs a stay (omega arith),
          stay_before 0 (suc s) xs a stay (omega arith),
        )

pub marked_next : (xs : List Arc) (a : Arc) (index : List ℕ) (source count : ℕ) → source ≡ a.source → count ≡ length xs →
    sources_stay 0 (xs ++ (a ∷ [])) ≡ true → a.source < max_states → EndsMarked xs index → EndsMarked (xs ++ (a ∷ [])) (set index (source + 1) (count + 1))
marked_next xs a index source count e l stay below m =
    rw (e, l, add-one a.source, add-one (length xs)) (marked_more xs a index stay below m)

-- The numbers by which arcs are found are small.
pub record Small (bs : List ℕ) (first : ℕ) : Type 0 where
  pub first_most : first ≤ arcs_at max_states
  pub arcs_are : length (decode bs).arcs ≡ head_arcs bs
  pub arcs_most : head_arcs bs ≤ max_arcs
  pub long : length bs ≡ first + arc_bytes * head_arcs bs

set_twice : (l : List ℕ) (i a b : ℕ) → set (set l i a) i b ≡ set l i b
set_twice [] i a b = refl
set_twice (x ∷ xs) zero a b = refl
set_twice (x ∷ xs) (suc i) a b = ap (λ (l : List ℕ). x ∷ l) (set_twice xs i a b)

-- What is known while arcs are marked, the first `i` of them.
module _ (bs : List ℕ) (bytes : Bytes bs) {first : ℕ} (o : AcceptedAt bs first) where
  pub opened_small : Small bs first
  opened_small =
      let within = accepted_within bs bytes o.accepted in
      record {
        first_most = omega (arith, o.first_is, within.states, within.finals);
        arcs_are = length_arcs bs bytes o.accepted;
        arcs_most = within.arcs;
        long = omega (arith, o.first_is, length_accepted bs bytes o.accepted);
      }

  -- The source of an arc stands in its record.
  source_at : (i place : ℕ) → place ≡ first + arc_bytes * i + 4 → i < length (decode bs).arcs → (arc (decode bs) i).source ≡ two bs place
  unfolding arc_at
  source_at i place e h =
      let there : arcs_at (head_finals bs) + arc_bytes * i + 4 ≡ place = omega (arith, o.first_is) in
      ap (λ (a : Arc). a.source) (arc_offset bs bytes o.accepted i h) ∙ ap (two bs) there

  pub marking_source : {i place : ℕ} (source : ℕ) → place ≡ first + arc_bytes * i + 4 → i < length (decode bs).arcs → source ≡ two bs place → source < max_states
  unfolding arc
  marking_source {i} {place} source e h is =
      omega (
        arith,
        (arc_states_below (decode bs) (accepted_good bs bytes o.accepted) i no_arc h).0,
        source_at i place e h,
        is,
        decode_states bs bytes o.accepted,
        (accepted_within bs bytes o.accepted).states,
      )

  pub marking_next : {i place : ℕ} {index : List ℕ} (source : ℕ) → place ≡ first + arc_bytes * i + 4 → i < length (decode bs).arcs → source ≡ two bs place →
      EndsMarked (take i (decode bs).arcs) index → EndsMarked (take (i + 1) (decode bs).arcs) (set index (source + 1) (i + 1))
  unfolding arc
  marking_next {i} {place} {index} source e h is m =
      let xs : List Arc = (decode bs).arcs in
      let a : Arc = arc (decode bs) i in
      let same : source ≡ a.source = is ∙ sym (source_at i place e h) in
      let more : take (i + 1) xs ≡ take i xs ++ (a ∷ []) = rw add-one (take-suc xs i no_arc h) in
      let stay : sources_stay 0 (take i xs ++ (a ∷ [])) ≡ true =
      rw (← more) (stay_take 0 (i + 1) xs (sources_stay_good (decode bs) (accepted_good bs bytes o.accepted))) in
      let below : a.source < max_states = omega (arith, marking_source source e h is) in
      rw more (marked_next (take i xs) a index source i same (sym (length-take-le i xs (omega arith))) stay below m)

  -- A block of arcs of one source: the marks of the earlier ones are overwritten.
  marking_run : (k source i : ℕ) {place : ℕ} {index : List ℕ} → place ≡ first + arc_bytes * i + 4 → i + suc k ≤ length (decode bs).arcs →
      ((j : ℕ) → j ≤ k → source ≡ two bs (place + arc_bytes * j)) →
      EndsMarked (take i (decode bs).arcs) index → EndsMarked (take (i + suc k) (decode bs).arcs) (set index (source + 1) (i + suc k))
  marking_run zero source i {place} at h e m = marking_next source (omega arith) (omega arith) (e 0 (omega arith)) m
  marking_run (suc k) source i {place} {index} at h e m =
      let more : i + suc (suc k) ≡ i + suc k + 1 = omega arith in
      let before : EndsMarked (take (i + suc k) (decode bs).arcs) (set index (source + 1) (i + suc k)) =
      marking_run k source i at (omega arith) (λ j l. e j (omega arith)) m in
      rw (more, ← set_twice index (source + 1) (i + suc k) (i + suc k + 1)) (marking_next source (omega arith) (omega arith) (e (suc k) (omega arith)) before)

  pub marking_block : (i source : ℕ) {place : ℕ} {index : List ℕ} → place ≡ first + arc_bytes * i + 4 → i + 128 ≤ length (decode bs).arcs →
      source ≡ two bs place → source ≡ two bs (place + 2032) →
      EndsMarked (take i (decode bs).arcs) index → EndsMarked (take (i + 128) (decode bs).arcs) (set index (source + 1) (i + 128))
  unfolding arc
  marking_block i source {place} at h low high m = marking_run 127 source i at h same m
    where
      rises : (j k : ℕ) → j ≤ k → k ≤ 127 → two bs (place + arc_bytes * j) ≤ two bs (place + arc_bytes * k)
      rises j k p q =
          omega (
            arith,
            source_at (i + j) (place + arc_bytes * j) (omega arith) (omega arith),
            source_at (i + k) (place + arc_bytes * k) (omega arith) (omega arith),
            stay_rises 0 (decode bs).arcs (i + j) (i + k) (sources_stay_good (decode bs) (accepted_good bs bytes o.accepted)) (omega arith) (omega arith),
          )

      same : (j : ℕ) → j ≤ 127 → source ≡ two bs (place + arc_bytes * j)
      same j p =
          let none : place + arc_bytes * 0 ≡ place = omega arith in
          let from : two bs place ≤ two bs (place + arc_bytes * j) = rw none at (rises 0 j (omega arith) p) in
          omega (arith, from, rises j 127 p (omega arith))

-- Once all arcs are marked.
pub marked_all : (xs : List Arc) {arcs : ℕ} {index : List ℕ} → arcs ≡ length xs → EndsMarked (take arcs xs) index → EndsMarked xs index
marked_all xs {arcs} e m = let whole : take arcs xs ≡ xs = take_all arcs xs (omega arith) in rw whole at m

-- The second loop

-- Up to `s` the index is as it shall be; behind it, it is as the first loop left it.
pub record Summed (xs : List Arc) (s most : ℕ) (index : List ℕ) : Type 0 where
  pub long : length index ≡ index_long
  pub so_far : (r : ℕ) → r ≤ s → get_or index r 0 ≡ arcs_below r xs
  pub most_is : most ≡ arcs_below s xs
  pub left : (r : ℕ) → s ≤ r → r < max_states → max (arcs_below r xs) (get_or index (suc r) 0) ≡ arcs_below (suc r) xs

pub summed_first : {xs : List Arc} {index : List ℕ} → EndsMarked xs index → Summed xs 0 0 index
summed_first {xs} m =
    record {
      long = m.long;
      so_far = λ r h. let e : r ≡ 0 = omega arith in rw e (m.at_first ∙ sym (arcs_below_zero xs));
      most_is = sym (arcs_below_zero xs);
      left = λ r _ h. m.at_state r h;
    }

pub summed_next : {xs : List Arc} {s most : ℕ} {index : List ℕ} (top : ℕ) → s < max_states → top ≡ max most (get_or index (s + 1) 0) → Summed xs s most index →
    Summed xs (s + 1) top (set index (s + 1) top)
summed_next {xs} {s} {most} {index} top h e m =
    record {
      long = length-set index (s + 1) top ∙ m.long;
      so_far = λ r l. on r l (ℕ_discrete r (s + 1));
      most_is = top_is;
      left = λ r l k.
          let kept : get_or (set index (s + 1) top) (suc r) 0 ≡ get_or index (suc r) 0 =
          get_or-set_other index (s + 1) (suc r) top 0 (λ q. omega arith) in
          rw kept (m.left r (omega arith) k);
    }
  where
    top_is : top ≡ arcs_below (s + 1) xs
    top_is = cc (add-one s, m.most_is, m.left s (omega arith) h)

    on : (r : ℕ) → r ≤ s + 1 → Dec (r ≡ s + 1) → get_or (set index (s + 1) top) r 0 ≡ arcs_below r xs
    on r l (yes q) = rw q (get_or-set_same index (s + 1) top 0 (omega (arith, m.long)) ∙ top_is)
    on r l (no n) = get_or-set_other index (s + 1) r top 0 n ∙ m.so_far r (omega arith)

pub summed_stop : (t : Transducer) {s most : ℕ} {index : List ℕ} → t.states ≤ s → Summed t.arcs s most index → Indexed t index
summed_stop t h m = record { long = m.long; at_state = λ r l. m.so_far r (omega arith) }
