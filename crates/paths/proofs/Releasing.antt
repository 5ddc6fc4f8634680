-- A state that is counted: along the chain of the arcs that lead to it its count is added to those of their sources (`Releasing`), and each arc is
-- taken off its source's open ones. Assumes nothing.
use mathlib.Core.Path.{◌≡◌, refl, sym, ap, ◌∙◌}
use mathlib.Core.Bool.{Bool, true, false, cond}
use mathlib.Core.List.{List}
use Prim.Native.Nat.{ℕ, suc, ◌+◌, ◌-◌, ◌<◌}
use native.Mathlib.Omega.{arith}
use native.Mathlib.Decide.{ℕ_discrete}
use lib.Dec.{leb, eqb}
use lib.ListN.{length, get_or, set}
use borrow.Author.Tests.{eqb-true, eqb-false, eq-eqb, leb-true, leb-false, le-leb, lt-leb}
use Rattle.wire.proofs.Bool.{clash, is_false}
use Rattle.transducer.specs.Format.{Transducer}
use Rattle.transducer.specs.Path.{arc}
use Rattle.reach.specs.Stack.{last, Chained}
use Rattle.reach.proofs.Cell.{Parts}
use Rattle.reach.proofs.Chains.{last_most, none_behind, none_between, OnChain, ArcHere, chain_first, chain_arc, chain_next, chain_end}
use Rattle.capped.specs.declared.Count.{Count}
use Rattle.capped.specs.Capped.{add}
use Rattle.capped.specs.Marks.{marked}
use Rattle.paths.specs.Sweep.{at_state, Stopping, Tallied}
use Rattle.paths.specs.Counting.{by_marks, Counting, ClosedArc, PartialSums, Underway}
use Rattle.paths.proofs.Ready.{Sized}
use Rattle.capped.proofs.MarksInPlace.{marked_set_same, marked_set_other}
use Rattle.paths.proofs.Shut.{shut_marked}
use Rattle.paths.proofs.StoredCounts.{at_set_other}
use Rattle.paths.proofs.Stops.{stopping_next}
use Rattle.paths.proofs.CountsInPlace.{tallied_more, tallied_kept}
use Rattle.paths.proofs.Counting.{counting_same, counting_pop, top_state, top_shut, off_some, off_kept, off_room, off_pushed, off_unmarked}
use Rattle.paths.proofs.PartialSums.{parts_same, parts_whole, parts_next}

-- The arcs that lead to marked states are done, and of those to the state itself the ones from number `link` on.
unfoldable pub done_from : Transducer → List Bool → (s link : ℕ) → (k : ℕ) → Bool
done_from t ms s link k = cond (eqb (arc t k).target s) (leb link k) (marked ms (arc t k).target)

from_first : (t : Transducer) (ms : List Bool) (s : ℕ) → marked ms s ≡ false → (k : ℕ) → k < length t.arcs
    → by_marks t ms k ≡ done_from t (set ms s true) s (last t true s (length t.arcs)) k
unfolding by_marks done_from
from_first t ms s free k b = on (eqb (arc t k).target s) refl
  where
    on : (c : Bool) → eqb (arc t k).target s ≡ c
        → marked ms (arc t k).target ≡ cond c (leb (last t true s (length t.arcs)) k) (marked (set ms s true) (arc t k).target)
    on true q =
        let e : (arc t k).target ≡ s = eqb-true (arc t k).target s q in
        ap (marked ms) e ∙ (free ∙ sym (is_false (leb (last t true s (length t.arcs)) k)
        (λ h. none_behind t true s (length t.arcs) k (leb-true (last t true s (length t.arcs)) k h) b e)))
    on false q = sym (marked_set_other ms s true (arc t k).target (eqb-false (arc t k).target s q))

from_last : (t : Transducer) (ms : List Bool) (s : ℕ) → marked ms s ≡ true → (k : ℕ) → done_from t ms s 0 k ≡ by_marks t ms k
unfolding by_marks done_from
from_last t ms s set' k = on (eqb (arc t k).target s) refl
  where
    on : (c : Bool) → eqb (arc t k).target s ≡ c → cond c (leb 0 k) (marked ms (arc t k).target) ≡ marked ms (arc t k).target
    on true q = le-leb 0 k (omega arith) ∙ sym (ap (marked ms) (eqb-true (arc t k).target s q) ∙ set')
    on false q = refl

-- One arc of the chain more.
from_here : (t : Transducer) (ms : List Bool) (s i : ℕ) → (arc t i).target ≡ s
    → (done_from t ms s (suc i) i ≡ false) × (done_from t ms s (last t true s i) i ≡ true)
unfolding done_from
from_here t ms s i e =
    let here : eqb (arc t i).target s ≡ true = eq-eqb (arc t i).target s e in
    (rw here (lt-leb (suc i) i (omega arith)), rw here (le-leb (last t true s i) i (last_most t true s i)))

from_other : (t : Transducer) (ms : List Bool) (s i k : ℕ) → (k ≡ i → ⊥) → done_from t ms s (suc i) k ≡ done_from t ms s (last t true s i) k
unfolding done_from
from_other t ms s i k n = on (eqb (arc t k).target s) refl
  where
    on : (c : Bool) → eqb (arc t k).target s ≡ c
        → cond c (leb (suc i) k) (marked ms (arc t k).target) ≡ cond c (leb (last t true s i) k) (marked ms (arc t k).target)
    on false q = refl
    on true q = at (leb (last t true s i) k) refl
      where
        at : (b : Bool) → leb (last t true s i) k ≡ b → leb (suc i) k ≡ b
        at true h =
            le-leb (suc i) k (none_between t true s i k (eqb-true (arc t k).target s q) n (leb-true (last t true s i) k h))
        at false h = lt-leb (suc i) k (omega (arith, leb-false (last t true s i) k h, last_most t true s i))

-- A done arc leads to a marked state.
from_marked : (t : Transducer) (ms : List Bool) (s link k : ℕ) → marked ms s ≡ true → done_from t ms s link k ≡ true → marked ms (arc t k).target ≡ true
unfolding done_from
from_marked t ms s link k m = on (eqb (arc t k).target s) refl
  where
    on : (c : Bool) → eqb (arc t k).target s ≡ c → cond c (leb link k) (marked ms (arc t k).target) ≡ true → marked ms (arc t k).target ≡ true
    on true q h = ap (marked ms) (eqb-true (arc t k).target s q) ∙ m
    on false q h = h

-- The state is marked, and the arcs of its chain before a cell are done.
pub record Releasing (t : Transducer) (ms : List Bool) (s whole : ℕ) (left stack : List ℕ) (top : ℕ) (cs : List Count) (c : ℕ) : Type 0 where
  pub link : ℕ
  pub chain : OnChain t true s link c
  pub counting : Counting t (done_from t ms s link) ms left stack top
  pub stopping : Stopping t (marked ms)
  pub tallied : Tallied t ms cs
  pub parts : PartialSums t (done_from t ms s link) cs
  pub here : marked ms s ≡ true
  pub whole_is : whole ≡ at_state cs s

pub releasing_first : (t : Transducer) → Sized t → (heads next : List ℕ) → Chained t true heads next → (ms : List Bool) (left stack : List ℕ) (top s : ℕ)
    (cs : List Count) → s ≡ get_or stack top 0 → Underway t ms left stack (top + 1) cs
    → Releasing t (set ms s true) s (at_state cs s) left stack top cs (get_or heads s 0)
unfolding by_marks
releasing_first t z heads next ch ms left stack top s cs is w =
    record {
      link = last t true s (length t.arcs);
      chain = chain_first s (omega (arith, state.0, z.states)) ch;
      counting =
          counting_same t (by_marks t ms) (done_from t (set ms s true) s (last t true s (length t.arcs))) (set ms s true) left stack top
          (from_first t ms s state.1) (counting_pop t z ms left stack top s is w.counting);
      stopping = stopping_next t z.within (marked ms) s (marked (set ms s true)) w.stopping shut (λ u n. marked_set_other ms s true u n);
      tallied = tallied_more t z ms cs s w.tallied shut (parts_whole t (by_marks t ms) cs s w.parts state.0 shut);
      parts = parts_same t (by_marks t ms) (done_from t (set ms s true) s (last t true s (length t.arcs))) cs (from_first t ms s state.1) w.parts;
      here = marked_set_same ms s true (omega (arith, state.0, w.counting.marks_long, z.states));
      whole_is = refl;
    }
  where
    state : (s < t.states) × (marked ms s ≡ false) × (get_or left s 0 ≡ 0)
    state = top_state t z ms left stack top s is w.counting

    shut : (k : ℕ) → k < length t.arcs → (arc t k).source ≡ s → marked ms (arc t k).target ≡ true
    shut = shut_marked t ms s (top_shut t z ms left stack top s is w.counting)

module _ (t : Transducer) (z : Sized t) (ms : List Bool) (s whole : ℕ) (left stack : List ℕ) (top : ℕ) (cs : List Count) (c : ℕ)
    (w : Releasing t ms s whole left stack top cs c) where
  -- The arc of a cell, whose source is a state with an open arc.
  module _ (some : c ≡ 0 → ⊥) {u k : ℕ} (p : Parts u k c) where
    here_arc : ArcHere t true s u k w.link
    here_arc = chain_arc z.arcs w.chain p some

    abbrev d : ℕ → Bool
    d = done_from t ms s w.link

    abbrev e : ℕ → Bool
    e = done_from t ms s (last t true s here_arc.number)

    new : done_from t ms s w.link here_arc.number ≡ false
    new = ap (λ (j : ℕ). done_from t ms s j here_arc.number) here_arc.is ∙ (from_here t ms s here_arc.number here_arc.from).0

    done : done_from t ms s (last t true s here_arc.number) here_arc.number ≡ true
    done = (from_here t ms s here_arc.number here_arc.from).1

    others : (i : ℕ) → i < length t.arcs → (i ≡ here_arc.number → ⊥)
        → done_from t ms s w.link i ≡ done_from t ms s (last t true s here_arc.number) i
    others i l n = ap (λ (j : ℕ). done_from t ms s j i) here_arc.is ∙ from_other t ms s here_arc.number i n

    pub releasing_source : u < t.states
    releasing_source = omega (arith, here_arc.to, z.within.leaves here_arc.number here_arc.below)

    pub releasing_some : 0 < get_or left u 0
    releasing_some = off_some t z d e ms left stack top here_arc.number u w.counting here_arc.below here_arc.to new done others

    pub releasing_room : get_or left u 0 - 1 ≡ 0 → top < 1024
    releasing_room = off_room t z d e ms left stack top here_arc.number u w.counting here_arc.below here_arc.to new done others

    unmarked : marked ms u ≡ false
    unmarked = off_unmarked t z d e ms left stack top here_arc.number u w.counting here_arc.below here_arc.to new done others

    closed : (left' stack' : List ℕ) (top' : ℕ) → ClosedArc left stack u top left' stack' top'
        → Counting t (done_from t ms s (last t true s here_arc.number)) ms left' stack' top'
    closed left' stack' top' f = on (ℕ_discrete (get_or left u 0 - 1) 0)
      where
        on : Dec (get_or left u 0 - 1 ≡ 0) → Counting t (done_from t ms s (last t true s here_arc.number)) ms left' stack' top'
        on (yes y) =
            rw (f.left_is, (f.pushed y).0, (f.pushed y).1)
            (off_pushed t z d e ms left stack top here_arc.number u w.counting here_arc.below here_arc.to new done others y)
        on (no n) =
            rw (f.left_is, (f.kept n).0, (f.kept n).1)
            (off_kept t z d e ms left stack top here_arc.number u w.counting here_arc.below here_arc.to new done others n)

    pub releasing_next : (heads next : List ℕ) → Chained t true heads next → (x : Count) (left' stack' : List ℕ) (top' : ℕ)
        → x.value ≡ add (at_state cs u) whole → ClosedArc left stack u top left' stack' top'
        → Releasing t ms s whole left' stack' top' (set cs u x) (get_or next (k - 1) 0)
    releasing_next heads next ch x left' stack' top' is f =
        record {
          link = last t true s here_arc.number;
          chain = chain_next z.arcs w.chain p ch here_arc;
          counting = closed left' stack' top' f;
          stopping = w.stopping;
          tallied = tallied_kept t ms cs u x w.tallied unmarked;
          parts =
              parts_next t d e cs here_arc.number u x w.parts here_arc.below here_arc.to (omega (arith, releasing_source, z.states)) new done
              others
              (λ i l q m. clash (from_marked t ms s (last t true s here_arc.number) i w.here q) (ap (marked ms) m ∙ unmarked))
              (is ∙ ap (add (at_state cs u)) (w.whole_is ∙ ap (at_state cs) (sym here_arc.from)));
          here = w.here;
          whole_is = w.whole_is ∙ sym (at_set_other cs u x s (λ q. clash w.here (ap (marked ms) q ∙ unmarked)));
        }

  pub releasing_stop : c ≡ 0 → Underway t ms left stack top cs
  releasing_stop none =
      let same : (k : ℕ) → k < length t.arcs → done_from t ms s w.link k ≡ by_marks t ms k =
      λ k _. ap (λ (j : ℕ). done_from t ms s j k) (chain_end w.chain none) ∙ from_last t ms s w.here k in
      record {
        counting = counting_same t (done_from t ms s w.link) (by_marks t ms) ms left stack top same w.counting;
        stopping = w.stopping;
        tallied = w.tallied;
        parts = parts_same t (done_from t ms s w.link) (by_marks t ms) cs same w.parts;
      }
