-- How it ends: by a sweep that settled all, by a queue that did, or at a path of too many arcs from a state that counts. Assumes nothing.
use mathlib.Core.Path.{◌≡◌, refl, sym, ◌∙◌}
use mathlib.Core.Bool.{Bool, true, false}
use mathlib.Core.Logic.{◌⊎◌, inl, inr}
use mathlib.Core.List.{List}
use Prim.Native.Nat.{ℕ, ◌<◌}
use native.Mathlib.Omega.{arith}
use lib.ListN.{replicate, get_or-replicate}
use Rattle.wire.proofs.Bool.{clash}
use Rattle.transducer.specs.Format.{Transducer, max_states}
use Rattle.transducer.specs.Path.{arc}
use Rattle.transducer.specs.Weight.{Weight}
use Rattle.transducer.proofs.Runs.{Within}
use Rattle.reach.specs.Marks.{Marked, Passes}
use Rattle.reach.specs.Reach.{accessible}
use Rattle.reach.proofs.Closure.{accessible_passes}
use Rattle.reach.proofs.Sized.{Sized}
use Rattle.cycles.specs.Cycles.{anywhere, SomeNegativeCycle}
use Rattle.relax.specs.Tentative.{Sizes, cost_at, by_state, Cells, Settled}
use Rattle.relaxation.specs.Swept.{SweptSays}
use Rattle.distance.specs.Ended.{counted, DistancesSay}
use Rattle.relaxation.specs.Queue.{mark, Drained}
use Rattle.distance.proofs.Settled.{distances_least}

-- Those count to which arcs lead from one that does.
pub counted_passes : (everywhere : Bool) (t : Transducer) → Within t → Passes t false (counted everywhere t)
counted_passes true t w = λ i b m. refl
counted_passes false t w = accessible_passes t w

module _ (t : Transducer) (z : Sized t) (cs : List Weight) (ls : Sizes) where
  settled_says : {counts : ℕ → Bool} → Cells t.states cs ls → Settled t counts (cost_at cs) (by_state ls) → DistancesSay t counts cs ls true
  settled_says {counts} cells k =
      record { cells = cells; settled = λ _. k; least = λ _. distances_least t z counts (cost_at cs) (by_state ls) k; falls = λ q. clash refl q }

  -- Where no arc makes a state better, none makes one that counts better.
  fewer : (counts : ℕ → Bool) → Passes t false counts → Settled t anywhere (cost_at cs) (by_state ls) → Settled t counts (cost_at cs) (by_state ls)
  fewer counts p k = record { nearing = k.nearing; onwards = p; by_arc = λ i b m. k.by_arc i b refl }

  pub swept_ends : (everywhere : Bool) {again : Bool} → SweptSays t cs ls again → again ≡ false → DistancesSay t (counted everywhere t) cs ls true
  swept_ends e s q = settled_says s.cells (fewer (counted e t) (counted_passes e t z.within) (s.settled q))

  -- All states marked: what counts is settled, or all states do and a cycle below zero stays.
  pub drained_ends : {ms : List Bool} → ms ≡ replicate max_states true → (everywhere : Bool) {r : Bool} → Drained t (mark ms) cs ls r
      → (everywhere ≡ true) ⊎ (r ≡ true) → DistancesSay t (counted everywhere t) cs ls r
  drained_ends {ms} all e {r} d either =
      record {
        cells = d.cells;
        settled = settled;
        least = λ q. distances_least t z (counted e t) (cost_at cs) (by_state ls) (settled q);
        falls = λ q. falls q either;
      }
    where
      marked : (s : ℕ) → s < max_states → mark ms s ≡ true
      marked s b = rw all (get_or-replicate {A = Bool} max_states s true false b)

      settled : r ≡ true → Settled t (counted e t) (cost_at cs) (by_state ls)
      settled q =
          fewer (counted e t) (counted_passes e t z.within) (record {
            nearing = d.nearing;
            onwards = λ i b m. refl;
            by_arc = λ i b m. d.relaxed q i b (marked (arc t i).source (omega (arith, z.within.leaves i b, z.states)));
          })

      falls : r ≡ false → (e ≡ true) ⊎ (r ≡ true) → SomeNegativeCycle t (counted e t)
      falls q (inl is) =
          let f : SomeNegativeCycle t (mark ms) = d.stays q in
          rw is (record { state = f.state; marked = refl; negative_cycle = f.negative_cycle })
      falls q (inr on) = clash on q

  -- Those marked to which the start leads.
  pub reached_ends : {ms : List Bool} → Marked (accessible t.states t) ms → (everywhere : Bool) → everywhere ≡ false → {r : Bool}
      → Drained t (mark ms) cs ls r → DistancesSay t (counted everywhere t) cs ls r
  reached_ends {ms} k e is {r} d =
      rw is (record {
        cells = d.cells;
        settled = settled;
        least = λ q. distances_least t z (accessible t.states t) (cost_at cs) (by_state ls) (settled q);
        falls = λ q.
            let f : SomeNegativeCycle t (mark ms) = d.stays q in
            record { state = f.state; marked = sym (k.at_state f.state) ∙ f.marked; negative_cycle = f.negative_cycle };
      })
    where
      settled : r ≡ true → Settled t (accessible t.states t) (cost_at cs) (by_state ls)
      settled q =
          record {
            nearing = d.nearing;
            onwards = accessible_passes t z.within;
            by_arc = λ i b m. d.relaxed q i b (k.at_state (arc t i).source ∙ m);
          }
