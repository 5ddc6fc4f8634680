-- The counts of the marked states (`Tallied`), and the counts in the end. Assumes nothing.
use mathlib.Core.Path.{◌≡◌, refl, sym, ap, ◌∙◌}
use mathlib.Core.Bool.{Bool, true, false, not, cond}
use mathlib.Core.Logic.{◌⊎◌, inl, inr}
use mathlib.Core.List.{List}
use Prim.Native.Nat.{ℕ, zero, suc, ◌+◌, ◌≤◌, ◌<◌, min}
use native.Mathlib.Omega.{arith}
use native.Mathlib.Decide.{ℕ_discrete}
use lib.ListN.{length, set, length-set}
use Rattle.wire.proofs.Bool.{clash}
use Rattle.transducer.specs.Format.{Transducer}
use Rattle.transducer.specs.Path.{arc}
use Rattle.reach.specs.Reach.{coaccessible}
use Rattle.capped.specs.declared.Count.{Count}
use Rattle.paths.specs.Count.{paths_from, goes_on, endless, most_counted}
use Rattle.paths.specs.Tally.{add_all, tally}
use Rattle.capped.specs.Marks.{marked}
use Rattle.paths.specs.declared.Totals.TheVariants.{Finite, Endless}
use Rattle.paths.specs.Sweep.{at_state, leads_on, Tallied, PathCounts, TotalsSay}
use Rattle.paths.specs.Counting.{Rested}
use Rattle.paths.proofs.GoesOn.{dead_none}
use Rattle.paths.proofs.Tally.{add_all_same}
use Rattle.paths.proofs.Sweep.{finite_tally, dead_tally}
use Rattle.paths.proofs.Ready.{Sized}
use Rattle.paths.proofs.StoredCounts.{at_set_other}
use Rattle.capped.proofs.MarksInPlace.{marked_set_other}
use Rattle.paths.proofs.Stops.{unmarked_goes_on, unmarked_endless}

-- On the way

pub tallied_none : (t : Transducer) (ms : List Bool) (cs : List Count) → length cs ≡ 1024 → ((s : ℕ) → marked ms s ≡ false) → Tallied t ms cs
tallied_none t ms cs long h = record { long = long; rounds = 0; tallied = λ s b m. clash m (h s) }

-- A state whose arcs all lead to marked ones, and whose count is complete.
pub tallied_more : (t : Transducer) → Sized t → (ms : List Bool) (cs : List Count) (s : ℕ) → Tallied t ms cs
    → ((k : ℕ) → k < length t.arcs → (arc t k).source ≡ s → marked ms (arc t k).target ≡ true) → at_state cs s ≡ add_all t (at_state cs) s
    → Tallied t (set ms s true) cs
unfolding tally
tallied_more t z ms cs s w shut e =
    record { long = w.long; rounds = suc w.rounds; tallied = λ u l m k h. on u l m k h (ℕ_discrete u s) }
  where
    here : (k : ℕ) → suc w.rounds ≤ k → at_state cs s ≡ tally k t s
    here zero h = absurd (omega arith)
    here (suc k) h =
        e ∙ add_all_same t (at_state cs) (tally k t) s
        (λ i l q. w.tallied (arc t i).target (z.within.arrives i l) (shut i l q) k (omega arith))

    on : (u : ℕ) → u < t.states → marked (set ms s true) u ≡ true → (k : ℕ) → suc w.rounds ≤ k → Dec (u ≡ s) → at_state cs u ≡ tally k t u
    on u l m k h (yes y) = rw y (here k h)
    on u l m k h (no n) = w.tallied u l (sym (marked_set_other ms s true u n) ∙ m) k (omega arith)

-- The count of an unmarked state may change.
pub tallied_kept : (t : Transducer) (ms : List Bool) (cs : List Count) (u : ℕ) (x : Count) → Tallied t ms cs → marked ms u ≡ false → Tallied t ms (set cs u x)
tallied_kept t ms cs u x w free =
    record {
      long = length-set cs u x ∙ w.long;
      rounds = w.rounds;
      tallied = λ s b m k h. at_set_other cs u x s (λ q. clash m (ap (marked ms) q ∙ free)) ∙ w.tallied s b m k h;
    }

-- Dead states of count 0.
pub tallied_dead : (t : Transducer) → Sized t → (ms ms' : List Bool) (cs : List Count) → Tallied t ms cs
    → ((s : ℕ) → s < t.states → marked ms' s ≡ true → (marked ms s ≡ true) ⊎ ((coaccessible t.states t s ≡ false) × (at_state cs s ≡ 0)))
    → Tallied t ms' cs
tallied_dead t z ms ms' cs w from = record { long = w.long; rounds = w.rounds; tallied = λ s b m k h. on s b k h (from s b m) }
  where
    on : (s : ℕ) → s < t.states → (k : ℕ) → w.rounds ≤ k → (marked ms s ≡ true) ⊎ ((coaccessible t.states t s ≡ false) × (at_state cs s ≡ 0))
        → at_state cs s ≡ tally k t s
    on s b k h (inl m) = w.tallied s b m k h
    on s b k h (inr d) = d.1 ∙ sym (dead_tally k t s (dead_none t z.within s d.0))

-- In the end

-- The counts stand where none waits and each unmarked state is live.
pub totals_say : (t : Transducer) → Sized t → (ms : List Bool) (start : ℕ) (cs : List Count) → Rested t ms cs
    → ((s : ℕ) → s < t.states → marked ms s ≡ false → coaccessible t.states t s ≡ true) → start ≡ t.start
    → TotalsSay t (cond (marked ms start) (Finite cs) (Endless cs))
unfolding leads_on
totals_say t z ms start cs r alive e =
    told (marked ms start) (rw e (unmarked_endless t z.within (marked ms) r.rest alive r.stopping))
  where
    on : (s : ℕ) → s < t.states → goes_on t.states t s ≡ false → (c : Bool) → marked ms s ≡ c
        → at_state cs s ≡ min most_counted (length (paths_from t.states t s))
    on s b f true q =
        let k : ℕ = r.tallied.rounds + t.states in
        r.tallied.tallied s b q k (omega arith) ∙ finite_tally t z.within s (record { below = b; stops = f }) k (omega arith)
    on s b f false q = clash (unmarked_goes_on t z.within (marked ms) r.rest alive t.states s b q) f

    settled : PathCounts t cs
    settled = record { long = r.tallied.long; counts = λ s b f. on s b f (marked ms s) refl }

    told : (c : Bool) → not c ≡ endless t → TotalsSay t (cond c (Finite cs) (Endless cs))
    told true h = record { finite = sym h; settled = settled }
    told false h = (sym h, settled)
