-- States that are counted once no arc of theirs is open. An arc taken off its source's number is done; where it was the last open one its source
-- goes on the stack. Assumes nothing.
use mathlib.Core.Path.{◌≡◌, sym, ap, ◌∙◌}
use mathlib.Core.Bool.{Bool, true, false, ◌&&◌, not, cond}
use mathlib.Core.List.{List}
use Prim.Native.Nat.{ℕ, zero, suc, ◌+◌, ◌-◌, ◌≤◌, ◌<◌}
use native.Mathlib.Nat.{not-suc-le-zero}
use native.Mathlib.Numerals.{add-one}
use native.Mathlib.Omega.{arith}
use native.Mathlib.Decide.{ℕ_discrete}
use lib.Dec.{ltb, eqb}
use lib.ListN.{length, get_or, set, replicate, length-set, length-replicate, get_or-replicate}
use lib.Seq.{get_or-set_same, get_or-set_other}
use borrow.Author.Tests.{eqb-true, eq-eqb, ne_eqb, lt-ltb, le-ltb, not-true}
use Rattle.wire.proofs.Bool.{clash, is_false, and-true, true_and}
use Rattle.transducer.specs.Format.{Transducer}
use Rattle.transducer.specs.Path.{arc}
use Rattle.reach.specs.Counted.{count}
use Rattle.reach.specs.Stack.{Off}
use Rattle.reach.proofs.Counted.{count_wider, count_before, count_onto, count_none, count_most}
use Rattle.reach.specs.Reach.{some_arc}
use Rattle.reach.proofs.Reach.{SomeAt, some_arc_at, at_some_arc}
use Rattle.capped.specs.Marks.{marked}
use Rattle.paths.specs.Sweep.{leads_on}
use Rattle.paths.specs.Counting.{open_at, by_marks, OpenedArcs, is_open, Stacked, Counting}
use Rattle.paths.proofs.Ready.{Sized}
use Rattle.capped.proofs.MarksInPlace.{marked_set_same, marked_set_other}
use Rattle.paths.proofs.Shut.{shut_marked}

-- Counts of numbers with a property

pub count_congruent : (n : ℕ) (f g : ℕ → Bool) → ((k : ℕ) → k < n → f k ≡ g k) → count n f ≡ count n g
count_congruent n f g h =
    let up = count_wider n f g (λ k l e. sym (h k l) ∙ e) in
    let down = count_wider n g f (λ k l e. h k l ∙ e) in
    omega (arith, up, down)

-- One number fewer.
pub count_less : (n i : ℕ) (f g : ℕ → Bool) → i < n → f i ≡ true → g i ≡ false → ((k : ℕ) → k < n → (k ≡ i → ⊥) → f k ≡ g k) → count n f ≡ suc (count n g)
unfolding count
count_less zero i f g b p q h = absurd (not-suc-le-zero b)
count_less (suc n) i f g b p q h = on (λ l. count_less n i f g l p q (λ k m. h k (omega arith))) (ℕ_discrete n i)
  where
    on : (i < n → count n f ≡ suc (count n g)) → Dec (n ≡ i) → count n f + cond (f n) 1 0 ≡ suc (count n g + cond (g n) 1 0)
    on below (yes y) =
        let rest : count n f ≡ count n g = count_congruent n f g (λ k l. h k (omega arith) (λ e. omega arith)) in
        rw (ap f y ∙ p, ap g y ∙ q, rest) (omega arith)
    on below (no m) =
        let rest : count n f ≡ suc (count n g) = below (omega arith) in
        rw (h n (omega arith) m) (omega arith)

count_zero : (n : ℕ) (f : ℕ → Bool) → count n f ≡ 0 → (k : ℕ) → k < n → f k ≡ false
count_zero n f e k h = is_false (f k) (λ q. omega (arith, count_before f k n h q))

-- Open arcs, while they are counted

pub opened_first : (t : Transducer) (done : ℕ → Bool) → OpenedArcs t done 0 (replicate 1024 0)
unfolding count
opened_first t done = record { long = length-replicate {A = ℕ} 1024 0; lefts = λ u h. get_or-replicate {A = ℕ} 1024 u 0 0 h }

-- An arc that is done.
pub opened_kept : (t : Transducer) (done : ℕ → Bool) (i : ℕ) (left : List ℕ) → OpenedArcs t done i left → done i ≡ true → OpenedArcs t done (i + 1) left
unfolding count open_at
opened_kept t done i left o e =
    record { long = o.long; lefts = λ u h. rw (add-one i, e) (o.lefts u h ∙ none (eqb (arc t i).source u) (count i (open_at t done u))) }
  where
    none : (b : Bool) (n : ℕ) → n ≡ n + cond (b && false) 1 0
    none true n = omega arith
    none false n = omega arith

pub opened_few : (t : Transducer) (done : ℕ → Bool) (i : ℕ) (left : List ℕ) → OpenedArcs t done i left → (u : ℕ) → u < 1024 → get_or left u 0 ≤ i
opened_few t done i left o u h = omega (arith, o.lefts u h, count_most i (open_at t done u))

pub opened_next : (t : Transducer) (done : ℕ → Bool) (i : ℕ) (left : List ℕ) (s : ℕ) → OpenedArcs t done i left → done i ≡ false → s ≡ (arc t i).source
    → s < 1024
    → OpenedArcs t done (i + 1) (set left s (get_or left s 0 + 1))
unfolding count open_at
opened_next t done i left s o e is room =
    record { long = length-set left s (get_or left s 0 + 1) ∙ o.long; lefts = λ u h. rw (add-one i, e) (on u h (ℕ_discrete u s)) }
  where
    on : (u : ℕ) → u < 1024 → Dec (u ≡ s)
        → get_or (set left s (get_or left s 0 + 1)) u 0 ≡ count i (open_at t done u) + cond (eqb (arc t i).source u && true) 1 0
    on u h (yes y) =
        let here : eqb (arc t i).source u ≡ true = eq-eqb (arc t i).source u (sym is ∙ sym y) in
        rw here (rw y (get_or-set_same left s (get_or left s 0 + 1) 0 (omega (arith, o.long)) ∙ ap (λ (n : ℕ). n + 1) (o.lefts s room)))
    on u h (no n) =
        let other : eqb (arc t i).source u ≡ false = ne_eqb (arc t i).source u (λ q. n (sym (is ∙ q))) in
        let kept : get_or (set left s (get_or left s 0 + 1)) u 0 ≡ get_or left u 0 = get_or-set_other left s u (get_or left s 0 + 1) 0 n in
        rw other (omega (arith, kept, o.lefts u h))

-- The stack at first: of the states below s

pub stacked_first : (ms : List Bool) (left stack : List ℕ) → length stack ≡ 1024 → Stacked 0 ms left stack 0
unfolding count
stacked_first ms left stack l =
    record {
      long = l;
      held = λ a h. absurd (omega arith);
      apart = λ a b h k. absurd (omega arith);
      all = λ u h. absurd (omega arith);
      few = omega arith;
    }

module _ (s : ℕ) (ms : List Bool) (left stack : List ℕ) (top : ℕ) (k : Stacked s ms left stack top) where
  pub stacked_top : top ≤ s
  stacked_top = omega (arith, k.few)

  -- A state that is marked or has open arcs.
  pub stacked_kept : (marked ms s ≡ false → get_or left s 0 ≡ 0 → ⊥) → Stacked (s + 1) ms left stack top
  unfolding count
  stacked_kept h =
      record {
        long = k.long;
        held = λ a l. let x = k.held a l in (omega (arith, x.0), x.1, x.2);
        apart = k.apart;
        all = λ u l m e. all u l m e (ℕ_discrete u s);
        few = rw (add-one s) (few (is_open left s));
      }
    where
      all : (u : ℕ) → u < s + 1 → marked ms u ≡ false → get_or left u 0 ≡ 0 → Dec (u ≡ s) → Off stack top u → ⊥
      all u l m e (yes y) off = h (rw y at m) (rw y at e)
      all u l m e (no n) off = k.all u (omega arith) m e off

      few : (b : Bool) → top + (count s (is_open left) + cond b 1 0) ≤ suc s
      few true = omega (arith, k.few)
      few false = omega (arith, k.few)

  pub stacked_push : s < 1024 → marked ms s ≡ false → get_or left s 0 ≡ 0 → Stacked (s + 1) ms left (set stack top s) (top + 1)
  unfolding count is_open
  stacked_push room free none =
      record {
        long = length-set stack top s ∙ k.long;
        held = λ a l. held a (ℕ_discrete a top) l;
        apart = λ a b l m. apart a b l m (ℕ_discrete b top);
        all = λ u l m e. all u l m e (ℕ_discrete u s);
        few = rw (add-one s, shut) (omega (arith, k.few));
      }
    where
      inside : top < length stack
      inside = omega (arith, stacked_top, k.long)

      shut : ltb 0 (get_or left s 0) ≡ false
      shut = le-ltb 0 (get_or left s 0) (omega arith)

      here : get_or (set stack top s) top 0 ≡ s
      here = get_or-set_same stack top s 0 inside

      other : (a : ℕ) → (a ≡ top → ⊥) → get_or (set stack top s) a 0 ≡ get_or stack a 0
      other a n = get_or-set_other stack top a s 0 n

      held : (a : ℕ) → Dec (a ≡ top) → a < top + 1
          → (get_or (set stack top s) a 0 < s + 1) × (marked ms (get_or (set stack top s) a 0) ≡ false) × (get_or left (get_or (set stack top s) a 0) 0 ≡ 0)
      held a (yes y) l = rw (y, here) (omega arith, free, none)
      held a (no n) l = let x = k.held a (omega arith) in rw (other a n) (omega (arith, x.0), x.1, x.2)

      apart : (a b : ℕ) → a < b → b < top + 1 → Dec (b ≡ top) → get_or (set stack top s) a 0 ≡ get_or (set stack top s) b 0 → ⊥
      apart a b l m (yes y) e =
          let left' : get_or (set stack top s) a 0 ≡ get_or stack a 0 = other a (λ q. omega arith) in
          let right : get_or (set stack top s) b 0 ≡ s = ap (λ (j : ℕ). get_or (set stack top s) j 0) y ∙ here in
          omega (arith, (k.held a (omega arith)).0, left', right, e)
      apart a b l m (no n) e = k.apart a b l (omega arith) (sym (other a (λ q. omega arith)) ∙ (e ∙ other b n))

      all : (u : ℕ) → u < s + 1 → marked ms u ≡ false → get_or left u 0 ≡ 0 → Dec (u ≡ s) → Off (set stack top s) (top + 1) u → ⊥
      all u l m e (yes y) off = off top (omega arith) (here ∙ sym y)
      all u l m e (no n) off = k.all u (omega arith) m e (λ j h q. off j (omega arith) (other j (λ z. omega arith) ∙ q))

-- All states and arcs

-- Arcs that are done alike.
pub counting_same : (t : Transducer) (d e : ℕ → Bool) (ms : List Bool) (left stack : List ℕ) (top : ℕ) → ((k : ℕ) → k < length t.arcs → d k ≡ e k)
    → Counting t d ms left stack top → Counting t e ms left stack top
unfolding open_at
counting_same t d e ms left stack top h w =
    record {
      marks_long = w.marks_long;
      opened = record {
        long = w.opened.long;
        lefts = λ u l. w.opened.lefts u l
            ∙ count_congruent (length t.arcs) (open_at t d u) (open_at t e u) (λ k b. ap (λ (x : Bool). eqb (arc t k).source u && not x) (h k b));
      };
      shut = w.shut;
      stacked = w.stacked;
    }

-- At first no arc leads from a marked state to an unmarked one.
pub counting_first : (t : Transducer) → Sized t → (ms : List Bool) (left stack : List ℕ) (top : ℕ) → length ms ≡ 1024
    → ((u : ℕ) → u < t.states → marked ms u ≡ true → leads_on t ms u ≡ false) → OpenedArcs t (by_marks t ms) (length t.arcs) left
    → Stacked t.states ms left stack top → Counting t (by_marks t ms) ms left stack top
unfolding open_at by_marks
counting_first t z ms left stack top long closed o k = record { marks_long = long; opened = o; shut = shut; stacked = k }
  where
    led : (u : ℕ) → u < t.states → marked ms u ≡ true → (i : ℕ) → i < length t.arcs → eqb (arc t i).source u && not (marked ms (arc t i).target) ≡ false
    led u b m i l =
        is_false (eqb (arc t i).source u && not (marked ms (arc t i).target))
        (λ q. on (and-true (eqb (arc t i).source u) (not (marked ms (arc t i).target)) q))
      where
        on : (eqb (arc t i).source u ≡ true) × (not (marked ms (arc t i).target) ≡ true) → ⊥
        on (leaves, free) =
            clash (shut_marked t ms u (closed u b m) i l (eqb-true (arc t i).source u leaves))
            (not-true (marked ms (arc t i).target) free)

    shut : (u : ℕ) → u < t.states → marked ms u ≡ true → get_or left u 0 ≡ 0
    shut u b m = o.lefts u (omega (arith, z.states)) ∙ count_none (length t.arcs) (open_at t (by_marks t ms) u) (led u b m)

-- With the stack empty each unmarked state has an arc to an unmarked one.
pub counting_rest : (t : Transducer) → Sized t → (ms : List Bool) (left stack : List ℕ) → Counting t (by_marks t ms) ms left stack 0
    → (s : ℕ) → s < t.states → marked ms s ≡ false → leads_on t ms s ≡ true
unfolding leads_on open_at by_marks arc
counting_rest t z ms left stack w s b m = on (ℕ_discrete (get_or left s 0) 0)
  where
    on : Dec (get_or left s 0 ≡ 0) → some_arc t.arcs s (λ v. not (marked ms v)) ≡ true
    on (yes y) = absurd (w.stacked.all s b m y (λ j h. absurd (omega arith)))
    on (no n) =
        let some = count_onto (open_at t (by_marks t ms) s) (length t.arcs) 0 (omega (arith, w.opened.lefts s (omega (arith, z.states)), n)) in
        let both = and-true (eqb (arc t some.place).source s) (not (marked ms (arc t some.place).target)) some.has in
        at_some_arc t.arcs s (λ v. not (marked ms v)) some.place some.below (eqb-true (arc t some.place).source s both.0) both.1

-- No arc of a state without open arcs leads to an unmarked one.
pub none_open : (t : Transducer) → Sized t → (ms : List Bool) (left : List ℕ) (s : ℕ) → OpenedArcs t (by_marks t ms) (length t.arcs) left
    → s < t.states → get_or left s 0 ≡ 0 → leads_on t ms s ≡ false
unfolding leads_on open_at by_marks arc
none_open t z ms left s o b e = is_false (some_arc t.arcs s (λ v. not (marked ms v))) (λ q. none (some_arc_at t.arcs s (λ v. not (marked ms v)) q))
  where
    none : SomeAt t.arcs s (λ v. not (marked ms v)) → ⊥
    none a =
        let zero' : count (length t.arcs) (open_at t (by_marks t ms) s) ≡ 0 = sym (o.lefts s (omega (arith, b, z.states))) ∙ e in
        clash (true_and (eqb (arc t a.place).source s) (not (marked ms (arc t a.place).target)) (eq-eqb (arc t a.place).source s a.leaves)
        a.for)
        (count_zero (length t.arcs) (open_at t (by_marks t ms) s) zero' a.place a.below)

-- The state on top

module _ (t : Transducer) (z : Sized t) (ms : List Bool) (left stack : List ℕ) (top s : ℕ) (is : s ≡ get_or stack top 0)
    (w : Counting t (by_marks t ms) ms left stack (top + 1)) where
  pub top_state : (s < t.states) × (marked ms s ≡ false) × (get_or left s 0 ≡ 0)
  top_state = rw is (w.stacked.held top (omega arith))

  pub top_shut : leads_on t ms s ≡ false
  top_shut = none_open t z ms left s w.opened top_state.0 top_state.2

  -- Taken off and marked.
  pub counting_pop : Counting t (by_marks t ms) (set ms s true) left stack top
  counting_pop =
      record {
        marks_long = length-set ms s true ∙ w.marks_long;
        opened = w.opened;
        shut = λ u b m. shut u b m (ℕ_discrete u s);
        stacked = record {
          long = w.stacked.long;
          held =
              λ a l. let x = w.stacked.held a (omega arith) in
              (x.0, marked_set_other ms s true (get_or stack a 0) (λ q. w.stacked.apart a top l (omega arith) (q ∙ is)) ∙ x.1, x.2);
          apart = λ a b l m. w.stacked.apart a b l (omega arith);
          all = λ u b m e. all u b m e (ℕ_discrete u s);
          few = omega (arith, w.stacked.few);
        };
      }
    where
      shut : (u : ℕ) → u < t.states → marked (set ms s true) u ≡ true → Dec (u ≡ s) → get_or left u 0 ≡ 0
      shut u b m (yes y) = rw y top_state.2
      shut u b m (no n) = w.shut u b (sym (marked_set_other ms s true u n) ∙ m)

      all : (u : ℕ) → u < t.states → marked (set ms s true) u ≡ false → get_or left u 0 ≡ 0 → Dec (u ≡ s) → Off stack top u → ⊥
      all u b m e (yes y) off = clash (marked_set_same ms s true (omega (arith, top_state.0, w.marks_long, z.states))) (rw y at m)
      all u b m e (no n) off = w.stacked.all u b (sym (marked_set_other ms s true u n) ∙ m) e (λ j h q. last j h q (ℕ_discrete j top))
        where
          last : (j : ℕ) → j < top + 1 → get_or stack j 0 ≡ u → Dec (j ≡ top) → ⊥
          last j h q (yes y) = n (sym q ∙ (ap (λ (i : ℕ). get_or stack i 0) y ∙ sym is))
          last j h q (no o) = off j (omega arith) q

-- One arc taken off its source's number

module _ (t : Transducer) (z : Sized t) (d e : ℕ → Bool) (ms : List Bool) (left stack : List ℕ) (top i u : ℕ) (w : Counting t d ms left stack top)
    (below : i < length t.arcs) (leaves : u ≡ (arc t i).source) (new : d i ≡ false) (done : e i ≡ true)
    (others : (k : ℕ) → k < length t.arcs → (k ≡ i → ⊥) → d k ≡ e k) where
  is_state : u < t.states
  is_state = omega (arith, leaves, z.within.leaves i below)

  fewer : count (length t.arcs) (open_at t d u) ≡ suc (count (length t.arcs) (open_at t e u))
  unfolding open_at
  fewer =
      let here : eqb (arc t i).source u ≡ true = eq-eqb (arc t i).source u (sym leaves) in
      count_less (length t.arcs) i (open_at t d u) (open_at t e u) below (rw (here, new)) (rw (here, done))
      (λ k l n. ap (λ (x : Bool). eqb (arc t k).source u && not x) (others k l n))

  pub off_some : 0 < get_or left u 0
  off_some = omega (arith, w.opened.lefts u (omega (arith, is_state, z.states)), fewer)

  off_here : get_or (set left u (get_or left u 0 - 1)) u 0 ≡ get_or left u 0 - 1
  off_here = get_or-set_same left u (get_or left u 0 - 1) 0 (omega (arith, w.opened.long, is_state, z.states))

  off_other : (v : ℕ) → (v ≡ u → ⊥) → get_or (set left u (get_or left u 0 - 1)) v 0 ≡ get_or left v 0
  off_other v n = get_or-set_other left u v (get_or left u 0 - 1) 0 n

  off_opened : OpenedArcs t e (length t.arcs) (set left u (get_or left u 0 - 1))
  unfolding open_at
  off_opened = record { long = length-set left u (get_or left u 0 - 1) ∙ w.opened.long; lefts = λ v l. on v l (ℕ_discrete v u) }
    where
      same : (v : ℕ) → (v ≡ u → ⊥) → (k : ℕ) → k < length t.arcs → Dec (k ≡ i) → open_at t d v k ≡ open_at t e v k
      same v n k l (yes y) =
          let other : eqb (arc t k).source v ≡ false = ne_eqb (arc t k).source v (λ q. n (sym (leaves ∙ (ap (λ (j : ℕ). (arc t j).source) (sym y) ∙ q)))) in
          rw other
      same v n k l (no m) = ap (λ (x : Bool). eqb (arc t k).source v && not x) (others k l m)

      on : (v : ℕ) → v < 1024 → Dec (v ≡ u) → get_or (set left u (get_or left u 0 - 1)) v 0 ≡ count (length t.arcs) (open_at t e v)
      on v l (yes y) = rw y (omega (arith, off_here, w.opened.lefts u (omega (arith, is_state, z.states)), fewer))
      on v l (no n) =
          off_other v n ∙
          (w.opened.lefts v l ∙ count_congruent (length t.arcs) (open_at t d v) (open_at t e v) (λ k b. same v n k b (ℕ_discrete k i)))

  -- A state with an open arc is not marked, and not on the stack.
  pub off_unmarked : marked ms u ≡ false
  off_unmarked = is_false (marked ms u) (λ q. omega (arith, w.shut u is_state q, off_some))

  not_held : (a : ℕ) → a < top → get_or stack a 0 ≡ u → ⊥
  not_held a l q = omega (arith, off_some, ap (λ (v : ℕ). get_or left v 0) q, (w.stacked.held a l).2)

  off_shut : (v : ℕ) → v < t.states → marked ms v ≡ true → get_or (set left u (get_or left u 0 - 1)) v 0 ≡ 0
  off_shut v b m = off_other v (λ q. clash m (ap (marked ms) q ∙ off_unmarked)) ∙ w.shut v b m

  off_held : (a : ℕ) → a < top
      → (get_or stack a 0 < t.states) × (marked ms (get_or stack a 0) ≡ false) × (get_or (set left u (get_or left u 0 - 1)) (get_or stack a 0) 0 ≡ 0)
  off_held a l = let x = w.stacked.held a l in (x.0, x.1, off_other (get_or stack a 0) (not_held a l) ∙ x.2)

  pub off_kept : (get_or left u 0 - 1 ≡ 0 → ⊥) → Counting t e ms (set left u (get_or left u 0 - 1)) stack top
  unfolding is_open
  off_kept n =
      record {
        marks_long = w.marks_long;
        opened = off_opened;
        shut = off_shut;
        stacked = record {
          long = w.stacked.long;
          held = off_held;
          apart = w.stacked.apart;
          all = λ v b m q. all v b m q (ℕ_discrete v u);
          few =
              omega (
                arith,
                w.stacked.few,
                count_wider t.states (is_open (set left u (get_or left u 0 - 1))) (is_open left)
                    (λ v l q. wider v q (ℕ_discrete v u)),
              );
        };
      }
    where
      all : (v : ℕ) → v < t.states → marked ms v ≡ false → get_or (set left u (get_or left u 0 - 1)) v 0 ≡ 0 → Dec (v ≡ u) → Off stack top v → ⊥
      all v b m q (yes y) off = n (sym off_here ∙ (ap (λ (x : ℕ). get_or (set left u (get_or left u 0 - 1)) x 0) (sym y) ∙ q))
      all v b m q (no o) off = w.stacked.all v b m (sym (off_other v o) ∙ q) off

      wider : (v : ℕ) → ltb 0 (get_or (set left u (get_or left u 0 - 1)) v 0) ≡ true → Dec (v ≡ u) → ltb 0 (get_or left v 0) ≡ true
      wider v q (yes y) = rw y (lt-ltb 0 (get_or left u 0) off_some)
      wider v q (no o) = rw (off_other v o) at q

  one_open : get_or left u 0 - 1 ≡ 0 → count t.states (is_open left) ≡ suc (count t.states (is_open (set left u (get_or left u 0 - 1))))
  unfolding is_open
  one_open q =
      count_less t.states u (is_open left) (is_open (set left u (get_or left u 0 - 1))) is_state (lt-ltb 0 (get_or left u 0) off_some)
      (le-ltb 0 (get_or (set left u (get_or left u 0 - 1)) u 0) (omega (arith, off_here, q))) (λ v l n. ap (ltb 0) (sym (off_other v n)))

  pub off_room : get_or left u 0 - 1 ≡ 0 → top < 1024
  off_room q = omega (arith, one_open q, w.stacked.few, z.states)

  -- Its last open arc.
  pub off_pushed : get_or left u 0 - 1 ≡ 0 → Counting t e ms (set left u (get_or left u 0 - 1)) (set stack top u) (top + 1)
  off_pushed q =
      record {
        marks_long = w.marks_long;
        opened = off_opened;
        shut = off_shut;
        stacked = record {
          long = length-set stack top u ∙ w.stacked.long;
          held = λ a l. held a l (ℕ_discrete a top);
          apart = λ a b l m. apart a b l m (ℕ_discrete b top);
          all = λ v b m f. all v b m f (ℕ_discrete v u);
          few = omega (arith, w.stacked.few, one_open q);
        };
      }
    where
      here : get_or (set stack top u) top 0 ≡ u
      here = get_or-set_same stack top u 0 (omega (arith, off_room q, w.stacked.long))

      other : (a : ℕ) → (a ≡ top → ⊥) → get_or (set stack top u) a 0 ≡ get_or stack a 0
      other a n = get_or-set_other stack top a u 0 n

      held : (a : ℕ) → a < top + 1 → Dec (a ≡ top)
          → (get_or (set stack top u) a 0 < t.states) × (marked ms (get_or (set stack top u) a 0) ≡ false)
          × (get_or (set left u (get_or left u 0 - 1)) (get_or (set stack top u) a 0) 0 ≡ 0)
      held a l (yes y) = rw (y, here) (is_state, off_unmarked, off_here ∙ q)
      held a l (no n) = rw (other a n) (off_held a (omega arith))

      apart : (a b : ℕ) → a < b → b < top + 1 → Dec (b ≡ top) → get_or (set stack top u) a 0 ≡ get_or (set stack top u) b 0 → ⊥
      apart a b l m (yes y) f =
          not_held a (omega arith) (sym (other a (λ x. omega arith)) ∙ (f ∙ (ap (λ (j : ℕ). get_or (set stack top u) j 0) y ∙ here)))
      apart a b l m (no n) f = w.stacked.apart a b l (omega arith) (sym (other a (λ x. omega arith)) ∙ (f ∙ other b n))

      all : (v : ℕ) → v < t.states → marked ms v ≡ false → get_or (set left u (get_or left u 0 - 1)) v 0 ≡ 0 → Dec (v ≡ u) → Off (set stack top u) (top + 1) v
          → ⊥
      all v b m f (yes y) off = off top (omega arith) (here ∙ sym y)
      all v b m f (no n) off = w.stacked.all v b m (sym (off_other v n) ∙ f) (λ j h g. off j (omega arith) (other j (λ x. omega arith) ∙ g))

-- Each state that is marked leaves one fewer.
pub unmarked_less : (n : ℕ) (ms : List Bool) (s : ℕ) → s < n → s < length ms → marked ms s ≡ false
    → count n (λ u. not (marked (set ms s true) u)) < count n (λ u. not (marked ms u))
unmarked_less n ms s b l free =
    omega (
      arith,
      count_less n s (λ u. not (marked ms u)) (λ u. not (marked (set ms s true) u)) b (ap not free) (ap not (marked_set_same ms s true l))
          (λ u _ d. ap not (sym (marked_set_other ms s true u d))),
    )

-- The mark where an arc leads.
pub by_target_mark : (t : Transducer) (ms : List Bool) (i u : ℕ) (b : Bool) → u ≡ (arc t i).target → marked ms u ≡ b → by_marks t ms i ≡ b
unfolding by_marks
by_target_mark t ms i u b e m = ap (marked ms) (sym e) ∙ m

-- All arcs, and all states.
pub opened_all : (t : Transducer) (done : ℕ → Bool) (i : ℕ) (left : List ℕ) → i ≡ length t.arcs → OpenedArcs t done i left
    → OpenedArcs t done (length t.arcs) left
opened_all t done i left e o = rw e at o

pub stacked_all : (t : Transducer) (n : ℕ) (ms : List Bool) (left stack : List ℕ) (top : ℕ) → n ≡ t.states → Stacked n ms left stack top
    → Stacked t.states ms left stack top
stacked_all t n ms left stack top e k = rw e at k
