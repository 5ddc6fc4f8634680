-- The path along the first tight arcs from the start is the shortest. Assumes nothing.
use mathlib.Core.Path.{◌≡◌, refl, sym, ap, ◌∙◌}
use mathlib.Core.Bool.{Bool, true, false}
use mathlib.Core.Logic.{◌⊎◌, inl, inr}
use mathlib.Core.List.{List, [], ◌∷◌}
use Prim.Native.Nat.{ℕ, zero, suc, ◌+◌, ◌≤◌, ◌<◌}
use native.Mathlib.Omega.{arith}
use lib.ListN.{length}
use Rattle.wire.proofs.Bool.{clash}
use Rattle.transducer.proofs.Weights.{sums}
use Rattle.transducer.specs.Format.{Transducer}
use Rattle.transducer.specs.Path.{arc, accepts, path_cost}
use Rattle.transducer.specs.Weight.{Weight, plus, AtMost, Below}
use Rattle.transducer.proofs.Runs.{Accepting, AcceptingBy, accepts_accepting, accepting_accepts, accepting_cons, cons_accepting}
use Rattle.reach.specs.Reach.{accessible}
use Rattle.reach.proofs.Reach.{accessible_start}
use Rattle.paths.specs.Count.{before}
use Rattle.paths.proofs.Order.{before_cons}
use Rattle.reach.proofs.Sized.{Sized}
use Rattle.cycles.specs.Costs.{cost_from}
use Rattle.cycles.specs.Cycles.{negative_cycle}
use Rattle.cycles.proofs.Costs.{cost_start, cost_cons}
use Rattle.relax.specs.Size.{Size, size_of}
use Rattle.relax.specs.Tentative.{unreached, labels_of, longer, NoWorse, cost_by, size_by, Reached, Settled}
use Rattle.relax.proofs.Nearer.{no_worse_both, same_size, size_nil, size_cons}
use Rattle.relax.proofs.Bounds.{cost_by_some, cost_by_there}
use Rattle.distance.proofs.Settled.{By, by, Best, best, reached, reached_accepts, none_nearer, settled_rises}
use Rattle.shortest.specs.Shortest.{better, shortest}
use Rattle.shortest.specs.Tight.{Tight, First, first_tight, follow}
use Rattle.shortest.proofs.Best.{not_better}
use Rattle.shortest.proofs.Cheapest.{shortest_is}
use Rattle.shortest.proofs.Tight.{tight_first}

module _ (t : Transducer) (z : Sized t) (c : ℕ → Weight) (l : ℕ → Size) (k : Settled t (accessible t.states t) c l) where
  abbrev pub next_arc : ℕ → ℕ
  next_arc = first_tight t c l

  abbrev counts : ℕ → Bool
  counts = accessible t.states t

  abbrev Marked : ℕ → Type 0
  Marked s = counts s ≡ true

  start : Marked t.start
  start = accessible_start t.states t

  -- A path of a state's cost and size begins with a tight arc, and so does its rest.
  record BeginsTight (s i : ℕ) (p : List ℕ) : Type 0 where
    leaves : (arc t i).source ≡ s
    tight : Tight t c l i
    costs : cost_from t (arc t i).target p ≡ c (arc t i).target
    size : size_of t p ≡ l (arc t i).target

  begins_tight : (s i : ℕ) (p : List ℕ) → s < t.states → Marked s → Accepting t s (i ∷ p)
      → cost_from t s (i ∷ p) ≡ c s → size_of t (i ∷ p) ≡ l s → BeginsTight s i p
  unfolding size_by longer
  begins_tight s i p b m a e f =
      let r : AcceptingBy t s i p = accepting_cons t s i p a in
      let u : ℕ = (arc t i).target in
      let rest : Best t z counts c l k u p =
      best t z counts c l k u p (z.within.arrives i r.below) (k.onwards i r.below (rw r.leaves m)) r.rest in
      let here : By t z counts c l k s i = by t z counts c l k s i r.below r.leaves m rest.below in
      let whole : plus (arc t i).weight (cost_from t u p) ≡ c s = sym (cost_cons t s i p) ∙ e in
      let low : AtMost (c s) (plus (arc t i).weight (c u)) = rw here.is at here.near.cost in
      let same : cost_from t u p ≡ c u = omega (arith, sums, rest.near.cost) in
      let costs : cost_by t c i ≡ c s = here.is ∙ (ap (λ (x : Weight). plus (arc t i).weight x) (sym same) ∙ whole) in
      let long : longer (arc t i).output (size_of t p) ≡ l s = sym (size_cons t i p) ∙ f in
      let labels : (size_of t p).labels + labels_of (arc t i).output ≡ (l s).labels = ap (λ (x : Size). x.labels) long in
      let arcs : (size_of t p).arcs + 1 ≡ (l s).arcs = ap (λ (x : Size). x.arcs) long in
      let one : AtMost (cost_by t c i) (c s) = rw costs (omega (arith, sums)) in
      let two : AtMost (cost_from t u p) (c u) = rw same (omega (arith, sums)) in
      let few_labels : (l s).labels ≤ (l u).labels + labels_of (arc t i).output = here.near.labels one in
      let many_labels : (l u).labels ≤ (size_of t p).labels = rest.near.labels two in
      let few : (l s).arcs ≤ (l u).arcs + 1 = here.near.arcs one (omega arith) in
      let many : (l u).arcs ≤ (size_of t p).arcs = rest.near.arcs two (omega arith) in
      let is : size_of t p ≡ l u = same_size (size_of t p) (l u) (omega arith) (omega arith) in
      record {
        leaves = r.leaves;
        tight = record { below = r.below; costs = rw r.leaves costs; size = rw r.leaves (ap (longer (arc t i).output) (sym is) ∙ long) };
        costs = same;
        size = is;
      }

  -- The first arc of a state from which arcs are left.
  pub record Next (s n : ℕ) : Type 0 where
    pub below : next_arc s < length t.arcs
    pub leaves : (arc t (next_arc s)).source ≡ s
    pub costs : plus (arc t (next_arc s)).weight (c (arc t (next_arc s)).target) ≡ c s
    pub size : longer (arc t (next_arc s)).output (l (arc t (next_arc s)).target) ≡ l s
    pub arcs : (l (arc t (next_arc s)).target).arcs ≡ n
    pub there : Below (c (arc t (next_arc s)).target) unreached

  tight_next : (s n : ℕ) → Below (c s) unreached → (l s).arcs ≡ suc n → (arc t (next_arc s)).source ≡ s → Tight t c l (next_arc s) → Next s n
  unfolding size_by longer
  tight_next s n h e leaves tight =
      let costs : cost_by t c (next_arc s) ≡ c s = tight.costs ∙ ap c leaves in
      let size : size_by t l (next_arc s) ≡ l s = tight.size ∙ ap l leaves in
      let arcs : (l (arc t (next_arc s)).target).arcs + 1 ≡ (l s).arcs = ap (λ (x : Size). x.arcs) size in
      let there : Below (c (arc t (next_arc s)).target) unreached = cost_by_there t c (next_arc s) (rw costs h) in
      record {
        below = tight.below;
        leaves = leaves;
        costs = sym (cost_by_some t c (next_arc s) there) ∙ costs;
        size = size;
        arcs = omega arith;
        there = there;
      }

  first_of : (s i : ℕ) (p : List ℕ) → Marked s → BeginsTight s i p → First t c l (next_arc s) i
  first_of s i p m st =
      rw st.leaves at
      (tight_first t z.content c l i st.tight (λ v b e. rw e at (k.by_arc v b (rw (e ∙ st.leaves) m))))

  -- A path of that size has no arcs where it is empty.
  none_of : (s : ℕ) → size_of t [] ≡ l s → (l s).arcs ≡ 0
  none_of s f = ap (λ (x : Size). x.arcs) (sym f ∙ size_nil t)

  pub next : (s n : ℕ) → s < t.states → Marked s → Below (c s) unreached → (l s).arcs ≡ suc n → Next s n
  next s n b m h e =
      let r : Reached t c l s = reached t z counts c l k s b h in
      on r.path (reached_accepts t z counts c l k s b h) r.costs r.size
    where
      on : (p : List ℕ) → Accepting t s p → cost_from t s p ≡ c s → size_of t p ≡ l s → Next s n
      on [] a g f = absurd (omega (arith, none_of s f))
      on (i ∷ p) a g f =
          let st : BeginsTight s i p = begins_tight s i p b m a g f in
          let fi : First t c l (next_arc s) i = first_of s i p m st in
          tight_next s n h e (fi.leaves ∙ st.leaves) fi.tight

  next_below : (s n : ℕ) → Next s n → (arc t (next_arc s)).target < t.states
  next_below s n x = z.within.arrives (next_arc s) x.below

  next_marked : (s n : ℕ) → Marked s → Next s n → Marked (arc t (next_arc s)).target
  next_marked s n m x = k.onwards (next_arc s) x.below (rw x.leaves m)

  -- The path along the first arcs.

  pub record Followed (s n : ℕ) : Type 0 where
    pub accepting : Accepting t s (follow n t next_arc s)
    pub costs : cost_from t s (follow n t next_arc s) ≡ c s
    pub size : size_of t (follow n t next_arc s) ≡ l s
    pub arcs : length (follow n t next_arc s) ≡ n

  pub followed : (n s : ℕ) → s < t.states → Marked s → Below (c s) unreached → (l s).arcs ≡ n → Followed s n
  unfolding follow size_of
  followed zero s b m h e =
      let r : Reached t c l s = reached t z counts c l k s b h in
      on r.path (reached_accepts t z counts c l k s b h) r.costs r.size
    where
      on : (p : List ℕ) → Accepting t s p → cost_from t s p ≡ c s → size_of t p ≡ l s → Followed s 0
      on [] a g f = record { accepting = a; costs = g; size = f; arcs = refl }
      on (i ∷ p) a g f = let some : suc (length p) ≡ (l s).arcs = ap (λ (x : Size). x.arcs) f in absurd (omega arith)
  followed (suc n) s b m h e =
      let x : Next s n = next s n b m h e in
      let u : ℕ = (arc t (next_arc s)).target in
      let rest : Followed u n = followed n u (next_below s n x) (next_marked s n m x) x.there x.arcs in
      record {
        accepting = cons_accepting t s (next_arc s) (follow n t next_arc u) (record { below = x.below; leaves = x.leaves; rest = rest.accepting });
        costs = cost_cons t s (next_arc s) (follow n t next_arc u) ∙ (ap (λ (y : Weight). plus (arc t (next_arc s)).weight y) rest.costs ∙ x.costs);
        size = size_cons t (next_arc s) (follow n t next_arc u) ∙ (ap (longer (arc t (next_arc s)).output) rest.size ∙ x.size);
        arcs = ap suc rest.arcs;
      }

  -- None of the same cost and size comes before it.
  pub follow_first : (n s : ℕ) → s < t.states → Marked s → Below (c s) unreached → (l s).arcs ≡ n → (q : List ℕ) → Accepting t s q → cost_from t s q ≡ c s
      → size_of t q ≡ l s → before q (follow n t next_arc s) ≡ false
  unfolding follow before
  follow_first zero s b m h e q a g f = refl
  follow_first (suc n) s b m h e [] a g f = absurd (omega (arith, none_of s f))
  follow_first (suc n) s b m h e (i ∷ q) a g f =
      on (before (i ∷ q) (next_arc s ∷ follow n t next_arc u)) refl
      (λ g' f'. follow_first n u (next_below s n x) (next_marked s n m x) x.there x.arcs q g' f')
    where
      x : Next s n
      x = next s n b m h e

      u : ℕ
      u = (arc t (next_arc s)).target

      st : BeginsTight s i q
      st = begins_tight s i q b m a g f

      low : next_arc s ≤ i
      low = (first_of s i q m st).first

      on : (d : Bool) → before (i ∷ q) (next_arc s ∷ follow n t next_arc u) ≡ d
          → (Accepting t u q → cost_from t u q ≡ c u → size_of t q ≡ l u → before q (follow n t next_arc u) ≡ false)
          → before (i ∷ q) (next_arc s ∷ follow n t next_arc u) ≡ false
      on false d more = d
      on true d more = two (before_cons i (next_arc s) q (follow n t next_arc u) d)
        where
          two : (i < next_arc s) ⊎ ((i ≡ next_arc s) × (before q (follow n t next_arc u) ≡ true)) → before (i ∷ q) (next_arc s ∷ follow n t next_arc u) ≡ false
          two (inl less) = absurd (omega (arith, low))
          two (inr (is, d')) =
              clash d'
              (more (rw is at (accepting_cons t s i q a).rest) (rw is at st.costs) (rw is at st.size))

  -- From the start.

  pub rises : negative_cycle t ≡ false
  unfolding negative_cycle
  rises = settled_rises t z counts c l k

  pub follow_shortest : Below (c t.start) unreached → follow (l t.start).arcs t next_arc t.start ≡ shortest t
  follow_shortest h = shortest_is t z.within rises p (accepting_accepts t p f.accepting) least
    where
      s : ℕ
      s = t.start

      p : List ℕ
      p = follow (l s).arcs t next_arc s

      f : Followed s (l s).arcs
      f = followed (l s).arcs s z.within.starts start h refl

      least : (q : List ℕ) → accepts t q ≡ true → better t q p ≡ false
      least q a =
          let b : Accepting t s q = accepts_accepting t q a in
          let near : NoWorse (c s) (l s) (cost_from t s q) (size_of t q) = none_nearer t z counts c l k s q z.within.starts start b in
          let cp : path_cost t p ≡ c s = sym (cost_start t p) ∙ f.costs in
          let cq : cost_from t s q ≡ path_cost t q = cost_start t q in
          let lp : size_of t p ≡ l s = f.size in
          not_better t q p (record {
            near = rw (cp, lp, ← cq) near;
            order = λ n.
                let n' : NoWorse (cost_from t s q) (size_of t q) (c s) (l s) = rw (cp, lp, ← cq) at n in
                let both = no_worse_both n' near in
                follow_first (l s).arcs s z.within.starts start h refl q b both.0 both.1;
          })
