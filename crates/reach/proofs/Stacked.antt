-- A stack of marked states whose arcs are still to be followed: all marked states put on it, one state's arcs followed (`Serving`), and the whole
-- emptied. Assumes nothing.
use mathlib.Core.Path.{◌≡◌, sym, ap, subst, ◌∙◌}
use mathlib.Core.Bool.{Bool, true, false}
use mathlib.Core.List.{List}
use Prim.Native.Nat.{ℕ, ◌+◌, ◌-◌, ◌*◌, ◌≤◌, ◌<◌}
use native.Mathlib.Numerals.{add-one}
use native.Mathlib.Decide.{ℕ_discrete}
use native.Mathlib.Omega.{arith}
use lib.ListN.{length, get_or, set, length-set}
use lib.Seq.{get_or-set_same, get_or-set_other}
use Rattle.wire.proofs.Bool.{clash}
use Rattle.transducer.specs.Format.{max_arcs, max_states, Transducer}
use Rattle.transducer.specs.Path.{arc}
use Rattle.reach.specs.Counted.{count}
use Rattle.reach.specs.Marks.{from_end, to_end, Passes, Widened, number}
use Rattle.reach.specs.Cell.{links, link_of}
use Rattle.reach.specs.Stack.{last, Chained, Off, Waiting, Served, Pushed}
use Rattle.reach.proofs.Counted.{count_most, count_rises, count_next}
use Rattle.reach.proofs.Spreading.{number_most, number_set, number_below, set_kept, spread_set, widened_none, widened_twice, widened_one}
use Rattle.reach.proofs.Sized.{Sized}
use Rattle.reach.proofs.Cell.{Parts, link_below}
use Rattle.reach.proofs.Chains.{none_behind, none_between, OnChain, ArcHere, chain_first, chain_arc, chain_next, chain_link, chain_less, chain_end}

-- A state more on a stack

module _ (stack : List ℕ) (top u : ℕ) (room : top < length stack) where
  pub pushed_other : (j : ℕ) → j < top → get_or (set stack top u) j 0 ≡ get_or stack j 0
  pushed_other j h = get_or-set_other stack top j u 0 (λ e. omega arith)

  -- What is off the longer stack is off the shorter one, and is not that state.
  pub off_before : (r : ℕ) → Off (set stack top u) (top + 1) r → Off stack top r
  off_before r off j h e = off j (omega arith) (pushed_other j h ∙ e)

  pub off_new : (r : ℕ) → Off (set stack top u) (top + 1) r → r ≡ u → ⊥
  off_new r off e = off top (omega arith) (get_or-set_same stack top u 0 room ∙ sym e)

-- The states on a stack are states, and are marked.
abbrev pub Held : (n : ℕ) → List Bool → (stack : List ℕ) → (top : ℕ) → Type 0
Held n ms stack top = (j : ℕ) → j < top → (get_or stack j 0 < n) × (get_or ms (get_or stack j 0) false ≡ true)

pub held_push : {n m : ℕ} (ms ms' : List Bool) (stack : List ℕ) (top u : ℕ) → top < length stack → n ≤ m → u < m → get_or ms' u false ≡ true
    → ((s : ℕ) → get_or ms s false ≡ true → get_or ms' s false ≡ true) → Held n ms stack top → Held m ms' (set stack top u) (top + 1)
held_push {n} {m} ms ms' stack top u room more l here grows old j h = on (ℕ_discrete j top)
  where
    on : Dec (j ≡ top) → (get_or (set stack top u) j 0 < m) × (get_or ms' (get_or (set stack top u) j 0) false ≡ true)
    on (yes e) = rw (e, get_or-set_same stack top u 0 room) (l, here)
    on (no k) =
        let b : j < top = omega arith in
        let o = old j b in
        rw (pushed_other stack top u room j b) (omega (arith, o.0), grows (get_or stack j 0) o.1)

-- The marked states below s are on the stack.
pub record Pushing (s : ℕ) (ms : List Bool) (stack : List ℕ) (top : ℕ) : Type 0 where
  pub stack_long : length stack ≡ max_states
  pub few : top ≤ count s (λ r. get_or ms r false)
  pub held : Held s ms stack top
  pub all : (r : ℕ) → r < s → get_or ms r false ≡ true → Off stack top r → ⊥

pub pushing_first : (ms : List Bool) (stack : List ℕ) → length stack ≡ max_states → Pushing 0 ms stack 0
pushing_first ms stack h =
    record { stack_long = h; few = omega arith; held = λ j l. absurd (omega arith); all = λ r l m o. absurd (omega arith) }

pub pushing_top : {s top : ℕ} {ms : List Bool} {stack : List ℕ} → Pushing s ms stack top → top ≤ s
pushing_top {s} {ms = ms} p = omega (arith, p.few, count_most s (λ r. get_or ms r false))

pub pushing_over : {s top : ℕ} {ms : List Bool} {stack : List ℕ} → get_or ms s false ≡ false → Pushing s ms stack top → Pushing (s + 1) ms stack top
pushing_over {s} {top} {ms} {stack} e p =
    record {
      stack_long = p.stack_long;
      few = omega (arith, p.few, count_rises (λ r. get_or ms r false) s (s + 1) (omega arith));
      held = λ j l. (omega (arith, (p.held j l).0), (p.held j l).1);
      all = λ r l m o. on r l m o (ℕ_discrete r s);
    }
  where
    on : (r : ℕ) → r < s + 1 → get_or ms r false ≡ true → Off stack top r → Dec (r ≡ s) → ⊥
    on r l m o (yes q) = clash (rw q at m) e
    on r l m o (no n) = p.all r (omega arith) m o

pub pushing_next : {s top : ℕ} {ms : List Bool} {stack : List ℕ} → s < max_states → get_or ms s false ≡ true → Pushing s ms stack top
    → Pushing (s + 1) ms (set stack top s) (top + 1)
pushing_next {s} {top} {ms} {stack} h e p =
    record {
      stack_long = length-set stack top s ∙ p.stack_long;
      few =
          let one : count (s + 1) (λ r. get_or ms r false) ≡ count s (λ r. get_or ms r false) + 1 =
          ap (λ (k : ℕ). count k (λ r. get_or ms r false)) (add-one s) ∙ count_next (λ r. get_or ms r false) s e in
          omega (arith, p.few, one);
      held = held_push ms ms stack top s room (omega arith) (omega arith) e (λ r m. m) p.held;
      all = λ r l m o. on r l m o (ℕ_discrete r s);
    }
  where
    room : top < length stack
    room = omega (arith, pushing_top p, p.stack_long)

    on : (r : ℕ) → r < s + 1 → get_or ms r false ≡ true → Off (set stack top s) (top + 1) r → Dec (r ≡ s) → ⊥
    on r l m o (yes q) = off_new stack top s room r o q
    on r l m o (no n) = p.all r (omega arith) m (off_before stack top s room r o)

pub pushing_stop : {s n top : ℕ} {ms : List Bool} {stack : List ℕ} → s ≡ n → n ≤ length ms → Pushing s ms stack top → Pushed n ms stack top
pushing_stop {s} {ms = ms} e h p =
    record {
      stack_long = p.stack_long;
      few = omega (arith, p.few, number_below ms s (omega arith));
      held = λ j l. (omega (arith, (p.held j l).0), (p.held j l).1);
      all = λ r l. p.all r (omega arith);
    }

-- The ends of an arc are states.
pub from_below : {t : Transducer} (z : Sized t) (back : Bool) (i : ℕ) → i < length t.arcs → from_end back (arc t i) < t.states
from_below z false i h = z.within.leaves i h
from_below z true i h = z.within.arrives i h

pub to_below : {t : Transducer} (z : Sized t) (back : Bool) (i : ℕ) → i < length t.arcs → to_end back (arc t i) < t.states
to_below z false i h = z.within.arrives i h
to_below z true i h = z.within.leaves i h

-- With all marked states on the stack, nothing is claimed of any arc.
pub waiting_first : {t : Transducer} (z : Sized t) (back : Bool) {n top : ℕ} {ms : List Bool} {stack : List ℕ} → n ≡ t.states → length ms ≡ max_states
    → Pushed n ms stack top → Waiting t back ms stack top
waiting_first {t} z back e long p =
    record {
      marks_long = long;
      stack_long = p.stack_long;
      few = p.few;
      held = λ j l. (omega (arith, (p.held j l).0), (p.held j l).1);
      closed = λ i h m o. absurd (p.all (from_end back (arc t i)) (omega (arith, from_below z back i h)) m o);
    }

pub waiting_none : {t : Transducer} {back : Bool} {ms : List Bool} {stack : List ℕ} {top : ℕ} → top ≡ 0 → Waiting t back ms stack top
    → Passes t back (λ s. get_or ms s false)
waiting_none e w i h m = w.closed i h m (λ j l. absurd (omega arith))

-- Following the arcs of one state

-- The arcs of `s` from number `link` on are followed; those on the stack from `bottom` on are new, no more than are newly marked.
pub record Serving (t : Transducer) (back : Bool) (first : List Bool) (bottom s : ℕ) (ms : List Bool) (stack : List ℕ) (top c : ℕ) : Type 0 where
  pub link : ℕ
  pub chain : OnChain t back s link c
  pub wider : Widened t back first ms
  pub rises : bottom ≤ top
  pub pushed : number first + top ≤ number ms + bottom
  pub marks_long : length ms ≡ max_states
  pub stack_long : length stack ≡ max_states
  pub here : get_or ms s false ≡ true
  pub few : top < number ms
  pub held : Held t.states ms stack top
  pub closed : (i : ℕ) → i < length t.arcs → get_or ms (from_end back (arc t i)) false ≡ true → Off stack top (from_end back (arc t i))
      → (from_end back (arc t i) ≡ s → link ≤ i) → get_or ms (to_end back (arc t i)) false ≡ true

pub serving_first : {t : Transducer} {back : Bool} {ms : List Bool} {stack heads next : List ℕ} {top : ℕ} (s : ℕ) → Sized t → s ≡ get_or stack top 0
    → Chained t back heads next → Waiting t back ms stack (top + 1) → Serving t back ms top s ms stack top (get_or heads s 0)
serving_first {t} {back} {ms} {stack} {top = top} s z is ch w =
    record {
      link = last t back s (length t.arcs);
      chain = chain_first s (omega (arith, state, z.states)) ch;
      wider = widened_none t back ms;
      rises = omega arith;
      pushed = omega arith;
      marks_long = w.marks_long;
      stack_long = w.stack_long;
      here = rw is (w.held top (omega arith)).1;
      few = omega (arith, w.few);
      held = λ j l. w.held j (omega arith);
      closed = λ i h m o past. w.closed i h m (off i h o past);
    }
  where
    state : s < t.states
    state = rw is (w.held top (omega arith)).0

    off : (i : ℕ) → i < length t.arcs → Off stack top (from_end back (arc t i))
        → (from_end back (arc t i) ≡ s → last t back s (length t.arcs) ≤ i) → Off stack (top + 1) (from_end back (arc t i))
    off i h o past j l e = on (ℕ_discrete j top)
      where
        on : Dec (j ≡ top) → ⊥
        on (yes q) =
            let f : from_end back (arc t i) ≡ s = sym e ∙ ap (λ (k : ℕ). get_or stack k 0) q ∙ sym is in
            none_behind t back s (length t.arcs) i (past f) h f
        on (no n) = o j (omega arith) e

-- So much is left to follow: the rest of a chain, and a whole one for each state that is not marked.
abbrev pub left_to_follow : List Bool → (cell : ℕ) → ℕ
left_to_follow ms c = links * (max_states - number ms) + link_of c

module _ {t : Transducer} {back : Bool} {first : List Bool} {bottom s : ℕ} {ms : List Bool} {stack : List ℕ} {top c u k : ℕ} (z : Sized t)
    (w : Serving t back first bottom s ms stack top c) (some : c ≡ 0 → ⊥) (p : Parts u k c) where
  pub serving_arc : ArcHere t back s u k w.link
  serving_arc = chain_arc z.arcs w.chain p some

  pub serving_to : u < t.states
  serving_to = let a = serving_arc in omega (arith, a.to, to_below z back a.number a.below)

  pub serving_link : (0 < k) × (k ≤ max_arcs)
  serving_link = chain_link z.arcs w.chain p some

  pub serving_room : top < max_states
  serving_room = omega (arith, w.few, number_most ms, w.marks_long)

  -- The arc leads to a marked state: on to the next.
  pub serving_over : {heads next : List ℕ} → Chained t back heads next → get_or ms u false ≡ true
      → Serving t back first bottom s ms stack top (get_or next (k - 1) 0)
  serving_over ch there =
      record {
        link = last t back s a.number;
        chain = chain_next z.arcs w.chain p ch a;
        wider = w.wider;
        rises = w.rises;
        pushed = w.pushed;
        marks_long = w.marks_long;
        stack_long = w.stack_long;
        here = w.here;
        few = w.few;
        held = w.held;
        closed = λ i h m o past. on i h m o past (ℕ_discrete i a.number);
      }
    where
      a : ArcHere t back s u k w.link
      a = serving_arc

      on : (i : ℕ) → i < length t.arcs → get_or ms (from_end back (arc t i)) false ≡ true → Off stack top (from_end back (arc t i))
          → (from_end back (arc t i) ≡ s → last t back s a.number ≤ i) → Dec (i ≡ a.number) → get_or ms (to_end back (arc t i)) false ≡ true
      on i h m o past (yes e) = rw (e, ← a.to) there
      on i h m o past (no n) = w.closed i h m o (λ f. omega (arith, a.is, none_between t back s a.number i f n (past f)))

  -- The chain goes on to lower numbers.
  pub serving_less : {heads next : List ℕ} → Chained t back heads next → left_to_follow ms (get_or next (k - 1) 0) < left_to_follow ms c
  serving_less ch = omega (arith, chain_less z.arcs w.chain p ch some)

  -- It leads to a state that is not: that one is marked.
  serving_inside : u < length ms
  serving_inside = omega (arith, serving_to, z.states, w.marks_long)

  serving_wider : Widened t back first (set ms u true)
  serving_wider =
      let a = serving_arc in
      widened_twice w.wider (widened_one a.number a.below (rw (a.from, ← a.to) (spread_set ms s u serving_inside w.here)))

  -- Less is left to follow then, whatever cell comes next.
  pub serving_fewer : get_or ms u false ≡ false → (c' : ℕ) → left_to_follow (set ms u true) c' < left_to_follow ms c
  serving_fewer new c' =
      let one = number_set ms u serving_inside new in
      let most = number_most (set ms u true) in
      omega (arith, one, most, length-set ms u true, w.marks_long, link_below c')

  -- It is put on the stack.
  pub serving_push : get_or ms u false ≡ false
      → Serving t back first bottom s (set ms u true) (set stack top u) (top + 1) c
  serving_push new =
      record {
        link = w.link;
        chain = w.chain;
        wider = serving_wider;
        rises = omega (arith, w.rises);
        pushed = omega (arith, w.pushed, one);
        marks_long = length-set ms u true ∙ w.marks_long;
        stack_long = length-set stack top u ∙ w.stack_long;
        here = grows s w.here;
        few = omega (arith, w.few, one);
        held = held_push ms (set ms u true) stack top u room (omega arith) serving_to (get_or-set_same ms u true false serving_inside)
            grows w.held;
        closed = λ i h m o past. on i h m o past (ℕ_discrete (from_end back (arc t i)) u);
      }
    where
      room : top < length stack
      room = omega (arith, serving_room, w.stack_long)

      one : number (set ms u true) ≡ number ms + 1
      one = number_set ms u serving_inside new

      grows : (r : ℕ) → get_or ms r false ≡ true → get_or (set ms u true) r false ≡ true
      grows r m = set_kept ms u r serving_inside m

      on : (i : ℕ) → i < length t.arcs → get_or (set ms u true) (from_end back (arc t i)) false ≡ true
          → Off (set stack top u) (top + 1) (from_end back (arc t i)) → (from_end back (arc t i) ≡ s → w.link ≤ i)
          → Dec (from_end back (arc t i) ≡ u) → get_or (set ms u true) (to_end back (arc t i)) false ≡ true
      on i h m o past (yes e) = absurd (off_new stack top u room (from_end back (arc t i)) o e)
      on i h m o past (no n) =
          grows (to_end back (arc t i))
          (w.closed i h (sym (get_or-set_other ms u (from_end back (arc t i)) true false n) ∙ m)
          (off_before stack top u room (from_end back (arc t i)) o) past)

  -- Where the arc was the last of its chain it is not put there, and its own arcs come next.
  pub serving_on : {heads next : List ℕ} → Chained t back heads next → get_or ms u false ≡ false → get_or next (k - 1) 0 ≡ 0
      → Serving t back first bottom u (set ms u true) stack top (get_or heads u 0)
  serving_on ch new end =
      record {
        link = last t back u (length t.arcs);
        chain = chain_first u (omega (arith, serving_to, z.states)) ch;
        wider = serving_wider;
        rises = w.rises;
        pushed = omega (arith, w.pushed, one);
        marks_long = length-set ms u true ∙ w.marks_long;
        stack_long = w.stack_long;
        here = get_or-set_same ms u true false serving_inside;
        few = omega (arith, w.few, one);
        held = λ j l. ((w.held j l).0, set_kept ms u (get_or stack j 0) serving_inside (w.held j l).1);
        closed = λ i h m o past. on i h m o past (ℕ_discrete (from_end back (arc t i)) u) (ℕ_discrete i a.number);
      }
    where
      a : ArcHere t back s u k w.link
      a = serving_arc

      one : number (set ms u true) ≡ number ms + 1
      one = number_set ms u serving_inside new

      none : last t back s a.number ≡ 0
      none = chain_end (chain_next z.arcs w.chain p ch a) end

      on : (i : ℕ) → i < length t.arcs → get_or (set ms u true) (from_end back (arc t i)) false ≡ true → Off stack top (from_end back (arc t i))
          → (from_end back (arc t i) ≡ u → last t back u (length t.arcs) ≤ i) → Dec (from_end back (arc t i) ≡ u) → Dec (i ≡ a.number)
          → get_or (set ms u true) (to_end back (arc t i)) false ≡ true
      on i h m o past (yes e) d = absurd (none_behind t back u (length t.arcs) i (past e) h e)
      on i h m o past (no n) (yes e) = rw (e, ← a.to) (get_or-set_same ms u true false serving_inside)
      on i h m o past (no n) (no q) =
          set_kept ms u (to_end back (arc t i)) serving_inside
          (w.closed i h (sym (get_or-set_other ms u (from_end back (arc t i)) true false n) ∙ m) o
          (λ f. omega (arith, a.is, none_between t back s a.number i f q (omega (arith, none)))))

pub serving_new : {t : Transducer} {back : Bool} {first : List Bool} {bottom s : ℕ} {ms : List Bool} {stack heads next : List ℕ} {top c u k : ℕ} → Sized t
    → Serving t back first bottom s ms stack top c → (c ≡ 0 → ⊥) → Parts u k c → Chained t back heads next → get_or ms u false ≡ false
    → Serving t back first bottom s (set ms u true) (set stack top u) (top + 1) (get_or next (k - 1) 0)
serving_new {ms = ms} {u = u} z w some p ch new =
    serving_over z (serving_push z w some p new) some p ch
    (get_or-set_same ms u true false (omega (arith, serving_to z w some p, z.states, w.marks_long)))

pub serving_stop : {t : Transducer} {back : Bool} {first : List Bool} {bottom s : ℕ} {ms : List Bool} {stack : List ℕ} {top c : ℕ} → c ≡ 0
    → Serving t back first bottom s ms stack top c → Served t back bottom first ms stack top
serving_stop e w =
    record {
      wider = w.wider;
      rises = w.rises;
      pushed = w.pushed;
      waiting = record {
        marks_long = w.marks_long;
        stack_long = w.stack_long;
        few = omega (arith, w.few);
        held = w.held;
        closed = λ i h m o. w.closed i h m o (λ _. omega (arith, none));
      };
    }
  where
    none : w.link ≡ 0
    none = chain_end w.chain e

-- Emptying the stack

-- So much is left to do: each state on the stack is served once, and each that is not marked may still be put there.
abbrev pub left_to_do : List Bool → (top : ℕ) → ℕ
left_to_do ms top = (max_states - number ms) + (max_states - number ms) + top

pub waiting_less : {t : Transducer} {back : Bool} {ms ms' : List Bool} {stack : List ℕ} {top top' : ℕ} → 0 < top
    → Served t back (top - 1) ms ms' stack top' → left_to_do ms' top' < left_to_do ms top
waiting_less {ms' = ms'} h v = omega (arith, v.pushed, v.rises, number_most ms', v.waiting.marks_long)

pub waiting_pop : {t : Transducer} {back : Bool} {ms : List Bool} {stack : List ℕ} {top : ℕ} → 0 < top → Waiting t back ms stack top
    → Waiting t back ms stack (top - 1 + 1)
waiting_pop {t} {back} {ms} {stack} {top} h w =
    let e : top ≡ top - 1 + 1 = omega arith in subst (λ (k : ℕ). Waiting t back ms stack k) e w
