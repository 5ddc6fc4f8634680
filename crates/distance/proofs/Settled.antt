-- What settled costs and sizes are: no accepting path from a marked state is nearer, and from none a path
-- goes round a cycle below zero on its way to a final state. Assumes nothing.
use mathlib.Core.Path.{◌≡◌, refl, sym, ap}
use mathlib.Core.Bool.{Bool, true, false, cond}
use mathlib.Core.List.{List, [], ◌∷◌}
use mathlib.Core.List.{Memᴰ as Mem}
use Prim.Native.Nat.{ℕ, ◌<◌}
use native.Mathlib.Omega.{arith}
use lib.ListN.{length}
use Rattle.wire.proofs.Bool.{is_false}
use Rattle.transducer.specs.Format.{Transducer}
use Rattle.transducer.specs.Path.{arc, runs, ends, arcs_cost}
use Rattle.transducer.specs.Weight.{Weight, plus, AtMost, Below, below}
use Rattle.transducer.proofs.Weights.{sums, plus_assoc}
use Rattle.transducer.proofs.Paths.{Runs, runs_cons}
use Rattle.transducer.proofs.Runs.{Accepting, AcceptingBy, accepting_nil, accepting_cons, ends_below}
use Rattle.reach.specs.Reach.{coaccessible}
use Rattle.reach.proofs.Reach.{coaccessible_path, path_coaccessible}
use Rattle.paths.specs.Count.{paths_from}
use Rattle.paths.proofs.Listed.{in_paths_from, paths_from_has}
use Rattle.reach.proofs.Sized.{Sized}
use Rattle.cycles.specs.Costs.{cost_from}
use Rattle.cycles.specs.Cycles.{NegativeCycleFrom, negative_cycle_among, SomeNegativeCycle}
use Rattle.cycles.proofs.Costs.{cost_nil, cost_cons}
use Rattle.cycles.proofs.Cycles.{negative_cycle_rest}
use Rattle.cycles.proofs.NegativeCycles.{negative_cycle_below, passes_along, among_falls}
use Rattle.relax.specs.Size.{Size, size_of}
use Rattle.distance.specs.Distance.{no_path, least_of, least_to_come}
use Rattle.relax.specs.Tentative.{unreached, longer, NoWorse, cost_by, size_by, own_cost, Reached, Settled}
use Rattle.distance.specs.Ended.{cost_told}
use Rattle.distance.proofs.ToCome.{least_of_most, least_of_in, least_of_above}
use Rattle.relax.proofs.Nearer.{no_worse_through, no_worse_step, size_nil, size_cons}
use Rattle.relax.proofs.Bounds.{Bounded, arc_bounded, final_bounded, reached_bounded, cost_by_some}

module _ (t : Transducer) (z : Sized t) (counts : ℕ → Bool) (c : ℕ → Weight) (l : ℕ → Size) (k : Settled t counts c l) where
  abbrev pub Marked : ℕ → Type 0
  Marked s = counts s ≡ true

  pub reached : (s : ℕ) → s < t.states → Below (c s) unreached → Reached t c l s
  reached s b h = k.nearing.reached s b h

  pub reached_accepts : (s : ℕ) (b : s < t.states) (h : Below (c s) unreached) → Accepting t s (reached s b h).path
  reached_accepts s b h = record { goes = (reached s b h).goes; final = (reached s b h).final }

  pub few_arcs : (s : ℕ) → s < t.states → Below (c s) unreached → (l s).arcs < t.states
  unfolding size_of
  few_arcs s b h = let e : length (reached s b h).path ≡ (l s).arcs = ap (λ (x : Size). x.arcs) (reached s b h).size in omega (arith, (reached s b h).few)

  -- An arc from a marked state to one with a cost.
  pub record By (s i : ℕ) : Type 0 where
    pub below : Below (c s) unreached
    pub is : cost_by t c i ≡ plus (arc t i).weight (c (arc t i).target)
    pub near : NoWorse (c s) (l s) (cost_by t c i) (size_by t l i)

  pub by : (s i : ℕ) → i < length t.arcs → (arc t i).source ≡ s → Marked s → Below (c (arc t i).target) unreached → By s i
  by s i b leaves m h =
      let u : ℕ = (arc t i).target in
      let is : cost_by t c i ≡ plus (arc t i).weight (c u) = cost_by_some t c i h in
      let here : NoWorse (c (arc t i).source) (l (arc t i).source) (cost_by t c i) (size_by t l i) = k.by_arc i b (rw leaves m) in
      let near : NoWorse (c s) (l s) (cost_by t c i) (size_by t l i) = rw leaves at here in
      let low : AtMost (c s) (plus (arc t i).weight (c u)) = rw is at near.cost in
      let w : Bounded 1000000 (arc t i).weight = arc_bounded t z i b in
      let v : Bounded 1024000000 (c u) = reached_bounded t z c l u (reached u (z.within.arrives i b) h) in
      record { below = omega (arith, sums, w.up, v.up); is = is; near = near }

  -- No accepting path from a state is better than its cost and size.
  pub record Best (s : ℕ) (p : List ℕ) : Type 0 where
    pub below : Below (c s) unreached
    pub near : NoWorse (c s) (l s) (cost_from t s p) (size_of t p)

  pub best : (s : ℕ) (p : List ℕ) → s < t.states → Marked s → Accepting t s p → Best s p
  unfolding own_cost size_by
  best s [] b m a =
      let e : own_cost t s ≡ cost_from t s [] = rw (accepting_nil t s a) (sym (cost_nil t s)) in
      let n : NoWorse (c s) (l s) (cost_from t s []) (size_of t []) = rw (size_nil t, ← e) (k.nearing.empty s b) in
      let f : Bounded 1000000 (cost_from t s []) = rw (cost_nil t s) (final_bounded t z s) in
      record { below = omega (arith, sums, n.cost, f.up); near = n }
  best s (i ∷ p) b m a =
      let r : AcceptingBy t s i p = accepting_cons t s i p a in
      let u : ℕ = (arc t i).target in
      let rest : Best u p = best u p (z.within.arrives i r.below) (k.onwards i r.below (rw r.leaves m)) r.rest in
      let here : By s i = by s i r.below r.leaves m rest.below in
      let step : NoWorse (cost_by t c i) (size_by t l i) (plus (arc t i).weight (cost_from t u p)) (longer (arc t i).output (size_of t p)) =
      rw here.is (no_worse_step (arc t i).weight (arc t i).output rest.near) in
      record { below = here.below; near = rw (cost_cons t s i p, size_cons t i p) (no_worse_through here.near step) }

  pub none_nearer : (s : ℕ) (p : List ℕ) → s < t.states → counts s ≡ true → Accepting t s p → NoWorse (c s) (l s) (cost_from t s p) (size_of t p)
  none_nearer s p b m a = (best s p b m a).near

  -- Where something accepts there is a cost.
  pub accepting_reached : (s : ℕ) (p : List ℕ) → s < t.states → counts s ≡ true → Accepting t s p → Below (c s) unreached
  accepting_reached s p b m a = (best s p b m a).below

  -- A path to a state with a cost: what comes behind it costs no less than from its first state.
  record Onward (s : ℕ) (p : List ℕ) : Type 0 where
    below : Below (c s) unreached
    low : AtMost (c s) (plus (arcs_cost t p) (c (ends t s p)))

  onward_path : (s : ℕ) (p : List ℕ) → Marked s → runs t s p ≡ true → Below (c (ends t s p)) unreached → Onward s p
  unfolding ends arcs_cost
  onward_path s [] m h e = record { below = e; low = omega (arith, sums) }
  onward_path s (i ∷ p) m h e =
      let r : Runs t s i p = runs_cons t s i p h in
      let u : ℕ = (arc t i).target in
      let rest : Onward u p = onward_path u p (k.onwards i r.below (rw r.leaves m)) r.rest e in
      let here : By s i = by s i r.below r.leaves m rest.below in
      let low : AtMost (c s) (plus (arc t i).weight (c u)) = rw here.is at here.near.cost in
      record {
        below = here.below;
        low =
            rw (plus_assoc (arc t i).weight (arcs_cost t p) (c (ends t u p)))
            (through (c s) (arc t i).weight (c u) (plus (arcs_cost t p) (c (ends t u p))) low rest.low);
      }
    where
      through : (a w b d : Weight) → AtMost a (plus w b) → AtMost b d → AtMost a (plus w d)
      through a w b d p q = omega (arith, sums)

  -- So from no such state does a path go round a cycle below zero on its way to a final state.
  pub settled_rises : negative_cycle_among t counts ≡ false
  settled_rises = is_false (negative_cycle_among t counts) (λ e. on (among_falls t counts e))
    where
      on : SomeNegativeCycle t counts → ⊥
      on g =
          let s : ℕ = g.state in
          let f : NegativeCycleFrom t s = g.negative_cycle in
          let u : ℕ = ends t s f.lead in
          let b : u < t.states = ends_below t z.within s f.lead (negative_cycle_below t z.within s f) f.there in
          let m : Marked u = passes_along t counts k.onwards s f.lead g.marked f.there in
          let h : Below (c u) unreached = accepting_reached u f.rest b m (negative_cycle_rest t s f) in
          let o : Onward u f.cycle = onward_path u f.cycle m f.around (rw f.back h) in
          let low : AtMost (c u) (plus (arcs_cost t f.cycle) (c u)) = rw f.back at o.low in
          omega (arith, sums, f.sum)

  pub reached_accepting : (s : ℕ) → s < t.states → Below (c s) unreached → coaccessible t.states t s ≡ true
  reached_accepting s b h = path_coaccessible t z.within s (reached s b h).path (reached_accepts s b h)

  pub no_path_none : (s : ℕ) → s < t.states → counts s ≡ true → AtMost unreached (c s) → coaccessible t.states t s ≡ false
  no_path_none s b m e =
      is_false (coaccessible t.states t s) (λ d.
      let p = coaccessible_path t.states t s d in
      let h : Below (c s) unreached = accepting_reached s p.0 b m p.1 in
      omega (arith, sums))

  -- The costs are the least to come.
  pub distances_least : (s : ℕ) → s < t.states → counts s ≡ true → cost_told (c s) ≡ least_to_come t s
  unfolding least_to_come cost_told
  distances_least s b m = on (below (c s) unreached) refl
    where
      all : List (List ℕ)
      all = paths_from t.states t s

      low : AtMost (c s) (least_of t s all)
      low = least_of_above t s (c s) all (omega (arith, sums, k.nearing.high s b)) (λ p i. (none_nearer s p b m (in_paths_from t.states t s p i).0).cost)

      on : (d : Bool) → below (c s) unreached ≡ d → cond d (c s) no_path ≡ least_of t s all
      on true d =
          let h : Below (c s) unreached = omega (arith, sums) in
          let r : Reached t c l s = reached s b h in
          let i : Mem r.path all = paths_from_has t.states t s r.path (reached_accepts s b h) (omega (arith, r.few)) in
          let high : AtMost (least_of t s all) (c s) = rw r.costs at (least_of_in t s all r.path i) in
          omega (arith, sums, low, high)
      on false d =
          let none : AtMost no_path (least_of t s all) =
          least_of_above t s no_path all (omega (arith, sums)) (λ p i.
          let h : Below (c s) unreached = accepting_reached s p b m (in_paths_from t.states t s p i).0 in
          absurd (omega (arith, sums))) in
          omega (arith, sums, none, least_of_most t s all)
