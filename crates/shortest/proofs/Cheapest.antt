-- The shortest path where no cycle below zero lies on an accepting path: it accepts where anything does, no accepting path is better, however long, and it
-- has fewer arcs than there are states. Assumes nothing.
use mathlib.Core.Path.{◌≡◌, refl}
use mathlib.Core.Bool.{Bool, true, false}
use mathlib.Core.Logic.{◌↔◌}
use mathlib.Core.List.{List, Memᴰ as Mem}
use Prim.Native.Nat.{ℕ, ◌≤◌, ◌<◌}
use native.Mathlib.Omega.{arith}
use lib.Dec.{leb}
use lib.ListN.{length}
use borrow.Author.Tests.{leb-true, leb-false}
use Rattle.wire.proofs.Bool.{clash}
use Rattle.transducer.specs.Format.{Transducer}
use Rattle.transducer.specs.Path.{accepts, written_by, path_cost}
use Rattle.transducer.specs.Weight.{AtMost}
use Rattle.transducer.proofs.Runs.{accepts_accepting, accepting_accepts, Within}
use Rattle.transducer.proofs.Weights.{sums}
use Rattle.reach.specs.Reach.{coaccessible}
use Rattle.reach.proofs.Reach.{coaccessible_path, path_coaccessible}
use Rattle.paths.specs.Count.{paths_from}
use Rattle.paths.proofs.Listed.{in_paths_from, paths_from_has}
use Rattle.relax.specs.Size.{size_of}
use Rattle.relax.proofs.Nearer.{no_worse_through}
use Rattle.shortest.specs.Shortest.{better, shortest}
use Rattle.cycles.specs.Cycles.{negative_cycle}
use Rattle.cycles.proofs.Costs.{cost_start}
use Rattle.cycles.proofs.Cycles.{Shorter, shorter}
use Rattle.cycles.proofs.NegativeCycles.{negative_cycle_true}
use Rattle.shortest.proofs.Best.{Near, NotBetter, better_false, not_better, neither_better_same, best_in, best_least}

module _ (t : Transducer) (w : Within t) (rises : negative_cycle t ≡ false) (p : List ℕ) (a : accepts t p ≡ true) where
  -- An accepting path that is listed, no dearer and no longer, by labels and by arcs.
  listed : Shorter t t.start p
  listed = shorter t w t.start p w.starts (λ f. clash (negative_cycle_true t w f) rises) (accepts_accepting t p a)

  listed_in : Mem listed.path (paths_from t.states t t.start)
  listed_in = paths_from_has t.states t t.start listed.path listed.accepting (omega (arith, listed.few))

  listed_near : Near t listed.path p
  unfolding size_of
  listed_near =
      let costs : AtMost (path_cost t listed.path) (path_cost t p) = rw (cost_start t listed.path, cost_start t p) at listed.costs in
      record { cost = costs; labels = λ _. listed.labels; arcs = λ _ _. listed.arcs }

  shortest_in : Mem (shortest t) (paths_from t.states t t.start)
  unfolding shortest
  shortest_in = best_in t (paths_from t.states t t.start) listed.path listed_in

  pub shortest_accepts : accepts t (shortest t) ≡ true
  shortest_accepts = accepting_accepts t (shortest t) (in_paths_from t.states t t.start (shortest t) shortest_in).0

  least_listed : (q : List ℕ) → Mem q (paths_from t.states t t.start) → better t q (shortest t) ≡ false
  unfolding shortest
  least_listed q m = best_least t (paths_from t.states t t.start) q m

  shortest_near : Near t (shortest t) listed.path
  shortest_near = (better_false t listed.path (shortest t) (least_listed listed.path listed_in)).near

  pub nothing_better : better t p (shortest t) ≡ false
  unfolding size_of
  nothing_better = on (leb (length p) t.states) refl
    where
      on : (b : Bool) → leb (length p) t.states ≡ b → better t p (shortest t) ≡ false
      on true e =
          least_listed p (paths_from_has t.states t t.start p (accepts_accepting t p a) (leb-true (length p) t.states e))
      on false e =
          let long : t.states < length p = leb-false (length p) t.states e in
          not_better t p (shortest t) (record {
            near = no_worse_through shortest_near listed_near;
            order = λ n.
                let low : AtMost (path_cost t listed.path) (path_cost t (shortest t)) = omega (arith, sums, n.cost, listed_near.cost) in
                let high : AtMost (path_cost t (shortest t)) (path_cost t p) = omega (arith, sums, shortest_near.cost, listed_near.cost) in
                let more : length (written_by t (shortest t)) ≤ length (written_by t listed.path) = shortest_near.labels low in
                let fewer : length (written_by t p) ≤ length (written_by t (shortest t)) = n.labels high in
                absurd (omega (arith, n.arcs high (omega (arith, listed.labels)), shortest_near.arcs low (omega (arith, listed.labels)), listed.few));
          })

  -- Its cost is the least, however many arcs others have.
  pub shortest_least : AtMost (path_cost t (shortest t)) (path_cost t p)
  shortest_least = (better_false t p (shortest t) nothing_better).near.cost

-- The shortest path again, of which no more is asked than that something accepts.
pub shortest_short : (t : Transducer) → Within t → negative_cycle t ≡ false → (p : List ℕ) → accepts t p ≡ true → length (shortest t) < t.states
unfolding size_of
shortest_short t w f p a =
    let m : List ℕ = shortest t in
    let b : accepts t m ≡ true = shortest_accepts t w f p a in
    let q : Shorter t t.start m = listed t w f m b in
    let n : NotBetter t q.path m = better_false t q.path m (nothing_better t w f q.path (accepting_accepts t q.path q.accepting)) in
    let less : length m ≤ length q.path = n.near.arcs (listed_near t w f m b).cost q.labels in
    omega (arith, q.few)

-- An accepting path that none is better than is the shortest one.
pub shortest_is : (t : Transducer) → Within t → negative_cycle t ≡ false → (p : List ℕ) → accepts t p ≡ true
    → ((q : List ℕ) → accepts t q ≡ true → better t q p ≡ false) → p ≡ shortest t
shortest_is t w f p a h =
    neither_better_same t p (shortest t) (nothing_better t w f p a) (h (shortest t) (shortest_accepts t w f p a))

-- Refusal 16: no path accepts.
pub nothing_accepts : (t : Transducer) → Within t → (coaccessible t.states t t.start ≡ false) ↔ ((p : List ℕ) → accepts t p ≡ false)
nothing_accepts t w = (λ h p. there h p (accepts t p) refl, λ h. back h (coaccessible t.states t t.start) refl)
  where
    there : coaccessible t.states t t.start ≡ false → (p : List ℕ) → (b : Bool) → accepts t p ≡ b → accepts t p ≡ false
    there h p false e = e
    there h p true e =
        clash (path_coaccessible t w t.start p (accepts_accepting t p e)) h

    back : ((p : List ℕ) → accepts t p ≡ false) → (b : Bool) → coaccessible t.states t t.start ≡ b → coaccessible t.states t t.start ≡ false
    back h false e = e
    back h true e =
        let found = coaccessible_path t.states t t.start e in
        clash (accepting_accepts t found.0 found.1) (h found.0)
