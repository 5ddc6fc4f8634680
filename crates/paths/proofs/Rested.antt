-- The counting from its beginning to the end: at first nothing is marked; once none waits, either all states are counted, or the dead ones are marked and
-- those that wait then are counted too. Assumes nothing.
use mathlib.Core.Path.{◌≡◌, refl, sym, ap, ◌∙◌}
use mathlib.Core.Bool.{Bool, true, false, ◌||◌, not, cond}
use mathlib.Core.Logic.{◌⊎◌, inl, inr}
use mathlib.Core.List.{List, ◌∷◌}
use Prim.Native.Nat.{ℕ, ◌+◌, ◌<◌, min}
use native.Mathlib.Omega.{arith}
use lib.ListN.{length, replicate, length-replicate}
use borrow.Author.Tests.{not-true}
use Rattle.wire.proofs.Bool.{clash, is_false}
use Rattle.transducer.specs.Format.{Transducer}
use Rattle.transducer.specs.Path.{arc}
use Rattle.transducer.proofs.Runs.{cons_accepting}
use Rattle.reach.specs.Reach.{some_arc, coaccessible}
use Rattle.reach.specs.Marks.{Marked}
use Rattle.reach.proofs.Reach.{SomeAt, some_arc_at, coaccessible_path}
use Rattle.reach.proofs.Closure.{get_or_none}
use Rattle.capped.specs.declared.Count.{Count}
use Rattle.paths.specs.Tally.{own, tally}
use Rattle.capped.specs.Marks.{marked}
use Rattle.paths.specs.declared.Totals.TheVariants.{Finite, Endless}
use Rattle.paths.specs.Sweep.{leads_on, at_state, Totalled, TotalsSay}
use Rattle.paths.specs.TopSorted.{EmptyPaths}
use Rattle.capped.specs.Marks.{WithDead}
use Rattle.paths.specs.Counting.{by_marks, OpenedArcs, Stacked, sum_done, Underway, Rested, Grown}
use Rattle.paths.proofs.Ready.{Sized}
use Rattle.paths.proofs.Shut.{shut_marked}
use Rattle.paths.proofs.GoesOn.{dead_none}
use Rattle.paths.proofs.Stops.{stopping_none, stopping_dead}
use Rattle.paths.proofs.Sweep.{dead_tally}
use Rattle.paths.proofs.CountsInPlace.{tallied_none, tallied_dead, totals_say}
use Rattle.paths.proofs.Counting.{counting_first, counting_rest, none_open}
use Rattle.paths.proofs.PartialSums.{sum_done_same, sum_done_zero, parts_first}

-- At first

none_marked : (s : ℕ) → marked (replicate 1024 false) s ≡ false
unfolding marked
none_marked s = get_or_none 1024 s

pub none_done : (t : Transducer) (k : ℕ) → by_marks t (replicate 1024 false) k ≡ false
unfolding by_marks
none_done t k = none_marked (arc t k).target

pub underway_first : (t : Transducer) → Sized t → (left stack : List ℕ) (top : ℕ) (cs : List Count) → EmptyPaths t t.states cs
    → OpenedArcs t (by_marks t (replicate 1024 false)) (length t.arcs) left → Stacked t.states (replicate 1024 false) left stack top
    → Underway t (replicate 1024 false) left stack top cs
underway_first t z left stack top cs empty o k =
    record {
      counting = counting_first t z (replicate 1024 false) left stack top (length-replicate {A = Bool} 1024 false)
          (λ u b m. clash m (none_marked u)) o k;
      stopping = stopping_none t (marked (replicate 1024 false)) none_marked;
      tallied = tallied_none t (replicate 1024 false) cs empty.long none_marked;
      parts = parts_first t (by_marks t (replicate 1024 false)) cs (none_done t) empty;
    }

-- None waits

pub underway_rested : (t : Transducer) → Sized t → (ms : List Bool) (left stack : List ℕ) (top : ℕ) (cs : List Count) → top ≡ 0
    → Underway t ms left stack top cs → Rested t ms cs
underway_rested t z ms left stack top cs e w =
    record {
      marks_long = w.counting.marks_long;
      shut = λ s b m. none_open t z ms left s w.counting.opened b (w.counting.shut s b m);
      rest = counting_rest t z ms left stack (rw e at w.counting);
      stopping = w.stopping;
      tallied = w.tallied;
      parts = w.parts;
    }

pub rested_all : (t : Transducer) → Sized t → (ms : List Bool) (cs : List Count) → Rested t ms cs → ((s : ℕ) → s < t.states → marked ms s ≡ true)
    → Totalled t cs
rested_all t z ms cs r all =
    let found = totals_say t z ms t.start cs r (λ s b q. clash (all s b) q) refl in
    rw (all t.start z.within.starts) at found

-- No unmarked state is dead.
pub rested_live : (t : Transducer) → Sized t → (live ms : List Bool) (start : ℕ) (cs : List Count) → Marked (coaccessible t.states t) live → Rested t ms cs
    → ((s : ℕ) → s < t.states → marked live s ≡ false → marked ms s ≡ true) → start ≡ t.start
    → TotalsSay t (cond (marked ms start) (Finite cs) (Endless cs))
unfolding marked
rested_live t z live ms start cs l r none e = totals_say t z ms start cs r (λ s b q. on s b q (marked live s) refl) e
  where
    on : (s : ℕ) → s < t.states → marked ms s ≡ false → (c : Bool) → marked live s ≡ c → coaccessible t.states t s ≡ true
    on s b q true h = sym (l.at_state s) ∙ h
    on s b q false h = clash (none s b h) q

-- Marking the dead states

pub dead_all : (t : Transducer) (n : ℕ) (live ms ms' : List Bool) → n ≡ t.states → WithDead n live ms ms' → WithDead t.states live ms ms'
dead_all t n live ms ms' e k = rw e at k

-- What a mark is then.
module _ (t : Transducer) (z : Sized t) (live ms ms' : List Bool) (cs : List Count) (l : Marked (coaccessible t.states t) live) (r : Rested t ms cs)
    (dead : WithDead t.states live ms ms') where
  from : (s : ℕ) → s < t.states → marked ms' s ≡ true → (marked ms s ≡ true) ⊎ (coaccessible t.states t s ≡ false)
  unfolding marked
  from s b m = on (marked ms s) refl (marked live s) refl (sym (dead.at_state s b) ∙ m)
    where
      on : (a : Bool) → marked ms s ≡ a → (c : Bool) → marked live s ≡ c → a || not c ≡ true → (marked ms s ≡ true) ⊎ (coaccessible t.states t s ≡ false)
      on true p c q h = inl p
      on false p false q h = inr (sym (l.at_state s) ∙ q)
      on false p true q h = clash h refl

  grows : (s : ℕ) → s < t.states → marked ms s ≡ true → marked ms' s ≡ true
  grows s b m = dead.at_state s b ∙ ap (λ (c : Bool). c || not (marked live s)) m

  to : (s : ℕ) → s < t.states → coaccessible t.states t s ≡ false → marked ms' s ≡ true
  unfolding marked
  to s b d = dead.at_state s b ∙ on (marked ms s) (marked live s) (l.at_state s ∙ d)
    where
      on : (a c : Bool) → c ≡ false → a || not c ≡ true
      on true c q = refl
      on false c q = rw q

  -- An arc of a dead state leads to a dead one.
  dead_arc : (s : ℕ) → coaccessible t.states t s ≡ false → (i : ℕ) → i < length t.arcs → (arc t i).source ≡ s
      → coaccessible t.states t (arc t i).target ≡ false
  dead_arc s d i b e =
      is_false (coaccessible t.states t (arc t i).target) (λ q.
      let p = coaccessible_path t.states t (arc t i).target q in
      dead_none t z.within s d (i ∷ p.0) (cons_accepting t s i p.0 (record { below = b; leaves = e; rest = p.1 })))

  -- A dead state has the count 0: it is not final, and each of its done arcs leads to a dead state that is counted.
  dead_zero : (s : ℕ) → s < t.states → coaccessible t.states t s ≡ false → at_state cs s ≡ 0
  unfolding by_marks tally
  dead_zero s b d =
      let mine : own t s ≡ 0 = none_own in
      let sum : sum_done (length t.arcs) t (by_marks t ms) s (at_state cs) ≡ 0 =
      sum_done_zero (length t.arcs) t (by_marks t ms) s (at_state cs) (λ i k e. term i k e (marked ms (arc t i).target) refl) in
      omega (arith, r.parts.sums s b, mine, sum)
    where
      none_own : own t s ≡ 0
      none_own = omega (arith, dead_tally 0 t s (dead_none t z.within s d))

      term : (i : ℕ) → i < length t.arcs → (arc t i).source ≡ s → (c : Bool) → marked ms (arc t i).target ≡ c → cond c (at_state cs (arc t i).target) 0 ≡ 0
      term i k e false q = refl
      term i k e true q =
          r.tallied.tallied (arc t i).target (z.within.arrives i k) q r.tallied.rounds (omega arith)
          ∙ dead_tally r.tallied.rounds t (arc t i).target (dead_none t z.within (arc t i).target (dead_arc s d i k e))

  shut : (s : ℕ) → s < t.states → marked ms' s ≡ true → leads_on t ms' s ≡ false
  unfolding leads_on arc
  shut s b m = is_false (some_arc t.arcs s (λ v. not (marked ms' v))) (λ q. none (some_arc_at t.arcs s (λ v. not (marked ms' v)) q) (from s b m))
    where
      none : SomeAt t.arcs s (λ v. not (marked ms' v)) → (marked ms s ≡ true) ⊎ (coaccessible t.states t s ≡ false) → ⊥
      none a (inl p) =
          clash
          (grows (arc t a.place).target (z.within.arrives a.place a.below)
          (shut_marked t ms s (r.shut s b p) a.place a.below a.leaves))
          (not-true (marked ms' (arc t a.place).target) a.for)
      none a (inr d) =
          clash (to (arc t a.place).target (z.within.arrives a.place a.below) (dead_arc s d a.place a.below a.leaves))
          (not-true (marked ms' (arc t a.place).target) a.for)

  pub underway_dead : (left stack : List ℕ) (top : ℕ) → OpenedArcs t (by_marks t ms') (length t.arcs) left → Stacked t.states ms' left stack top
      → Underway t ms' left stack top cs
  unfolding by_marks
  underway_dead left stack top o k =
      record {
        counting = counting_first t z ms' left stack top (dead.long ∙ r.marks_long) shut o k;
        stopping = stopping_dead t z.within (marked ms) (marked ms') r.stopping from;
        tallied = tallied_dead t z ms ms' cs r.tallied (λ s b m. counted s b (from s b m));
        parts = record {
          long = r.parts.long;
          sums = λ u b. r.parts.sums u b ∙ ap (λ (x : ℕ). min 99 (own t u + x))
              (sum_done_same (length t.arcs) t (by_marks t ms) (by_marks t ms') u (at_state cs) (at_state cs)
              (λ i l _. same (arc t i).target (z.within.arrives i l) (marked ms (arc t i).target) refl (marked ms' (arc t i).target) refl));
        };
      }
    where
      counted : (s : ℕ) → s < t.states → (marked ms s ≡ true) ⊎ (coaccessible t.states t s ≡ false)
          → (marked ms s ≡ true) ⊎ ((coaccessible t.states t s ≡ false) × (at_state cs s ≡ 0))
      counted s b (inl m) = inl m
      counted s b (inr d) = inr (d, dead_zero s b d)

      -- What is done anew adds 0.
      same : (v : ℕ) → v < t.states → (a : Bool) → marked ms v ≡ a → (c : Bool) → marked ms' v ≡ c → cond a (at_state cs v) 0 ≡ cond c (at_state cs v) 0
      same v b true p true q = refl
      same v b true p false q = clash (grows v b p) q
      same v b false p false q = refl
      same v b false p true q = zero' (from v b q)
        where
          zero' : (marked ms v ≡ true) ⊎ (coaccessible t.states t v ≡ false) → 0 ≡ at_state cs v
          zero' (inl m) = clash m p
          zero' (inr d) = sym (dead_zero v b d)

  -- In the end each unmarked state is live.
  pub rested_dead : (ms'' : List Bool) (start : ℕ) (cs' : List Count) → Rested t ms'' cs' → Grown ms' ms'' → start ≡ t.start
      → TotalsSay t (cond (marked ms'' start) (Finite cs') (Endless cs'))
  rested_dead ms'' start cs' r' more e = totals_say t z ms'' start cs' r' (λ s b q. on s b q (coaccessible t.states t s) refl) e
    where
      on : (s : ℕ) → s < t.states → marked ms'' s ≡ false → (c : Bool) → coaccessible t.states t s ≡ c → coaccessible t.states t s ≡ true
      on s b q true h = h
      on s b q false h = clash (more s (to s b h)) q
