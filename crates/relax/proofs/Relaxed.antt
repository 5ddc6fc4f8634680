-- What relaxing one arc leaves, one law for each way it goes. Nothing else of the crate says how costs and sizes change. Assumes nothing.
use mathlib.Core.Path.{◌≡◌, refl, sym, ap, ◌∙◌}
use mathlib.Core.Bool.{Bool, true, false}
use mathlib.Core.Logic.{◌⊎◌, inl, inr}
use mathlib.Core.List.{List, [], ◌∷◌, ◌++◌}
use Prim.Native.Nat.{ℕ, ◌+◌, ◌*◌, ◌≤◌, ◌<◌}
use native.Mathlib.Omega.{arith}
use native.Mathlib.Decide.{ℕ_discrete}
use lib.Dec.{leb}
use lib.ListN.{length, get_or, set, length-set}
use lib.Seq.{get_or-set_same, get_or-set_other}
use borrow.Author.Tests.{leb-true, leb-false, ne_eqb}
use Rattle.wire.proofs.Bool.{and-true}
use Rattle.wire.proofs.Ints.{size}
use Rattle.transducer.specs.declared.Arc.{Arc}
use Rattle.transducer.specs.Format.{Transducer, max_states}
use Rattle.transducer.specs.Path.{arc, ends, arcs_cost}
use Rattle.transducer.specs.Weight.{Weight, no_weight, amount, plus, AtMost, Below, at_most, magnitude}
use Rattle.transducer.proofs.Weights.{sums, sum, either, magnitude_is}
use Rattle.transducer.proofs.Runs.{Accepting, AcceptingBy, accepting_nil, accepting_cons, cons_accepting, Within}
use Rattle.transducer.proofs.Cycles.{Cycle, long_has_cycle}
use Rattle.relax.specs.Tentative.{total}
use Rattle.relax.proofs.Totals.{total_grows}
use Rattle.reach.proofs.Sized.{Sized}
use Rattle.cycles.specs.Costs.{cost_from}
use Rattle.cycles.specs.Cycles.{NegativeCycleFrom}
use Rattle.cycles.proofs.Costs.{cost_nil, cost_cons, cost_round}
use Rattle.cycles.proofs.Cycles.{cycle_falling}
use Rattle.relax.specs.Size.{Size, size_of, nearer}
use Rattle.relax.specs.Tentative.{packed, unpacked, Sizes, unreached, cost_at, by_state, no_size, labels_of, longer, NoWorse, Nearer, onward, cost_by}
use Rattle.relax.specs.Tentative.{size_by, own_cost, Rising, is_nearest, Reached, Tentative}
use Rattle.relax.specs.Tentative.{least_cost, height, Cells, NoBetter, Relaxed}
use Rattle.relax.specs.declared.relaxing.Change.TheVariants.{Kept, Better, TooLong}
use Rattle.relax.proofs.Nearer.{nearer_true, nearer_false, nearer_not, nearer_no_worse, nearer_through, no_worse_through, no_worse_same}
use Rattle.relax.proofs.Nearer.{size_cons, size_few, size_behind}
use Rattle.relax.proofs.Bounds.{Bounded, reached_bounded, cost_by_some, cost_by_none, cost_by_there, own_most}

-- Values by state of which one is put.
pub record Put {A : Type 0} (c : ℕ → A) (s : ℕ) (x : A) (d : ℕ → A) : Type 0 where
  pub here : d s ≡ x
  pub others : (u : ℕ) → (u ≡ s → ⊥) → d u ≡ c u

pub set_put : {A : Type 0} (none : A) (xs : List A) (s : ℕ) (x : A) → s < length xs → Put (λ u. get_or xs u none) s x (λ u. get_or (set xs s x) u none)
set_put none xs s x b = record { here = get_or-set_same xs s x none b; others = λ u n. get_or-set_other xs s u x none n }

sizes_put : (xs : Sizes) (s n : ℕ) → s < length xs → Put (by_state xs) s (unpacked n) (by_state (set xs s n))
sizes_put xs s n b =
    record { here = ap unpacked (set_put 0 xs s n b).here; others = λ u o. ap unpacked ((set_put 0 xs s n b).others u o) }

pub cost_by_same : (t : Transducer) (c d : ℕ → Weight) (i : ℕ) → d (arc t i).target ≡ c (arc t i).target → cost_by t d i ≡ cost_by t c i
unfolding cost_by
cost_by_same t c d i e = rw e refl

size_by_same : (t : Transducer) (l m : ℕ → Size) (i : ℕ) → m (arc t i).target ≡ l (arc t i).target → size_by t m i ≡ size_by t l i
unfolding size_by
size_by_same t l m i e = rw e refl

-- Where no weight is below zero no cost is, and where each arc writes a label no path by an arc has less than one: so no arc makes a cost of at most zero
-- with at most one label and one arc better.

rising_cost : (t : Transducer) → Within t → Rising t → (s : ℕ) (p : List ℕ) → s < t.states → Accepting t s p → AtMost no_weight (cost_from t s p)
rising_cost t w r s [] h a = rw (cost_nil t s) (r.finals s h (accepting_nil t s a))
rising_cost t w r s (i ∷ p) h a =
    let b : AcceptingBy t s i p = accepting_cons t s i p a in
    let here : AtMost no_weight (arc t i).weight = r.arcs i b.below in
    let rest : AtMost no_weight (cost_from t (arc t i).target p) =
    rising_cost t w r (arc t i).target p (w.arrives i b.below) b.rest in
    rw (cost_cons t s i p) (omega (arith, sums))

rising_by : (t : Transducer) → Sized t → Rising t → (c : ℕ → Weight) (l : ℕ → Size) → Tentative t c l → (i : ℕ) → i < length t.arcs
    → AtMost no_weight (cost_by t c i)
rising_by t z r c l n i b = on (either (c u) unreached)
  where
    u : ℕ
    u = (arc t i).target

    on : AtMost unreached (c u) ⊎ Below (c u) unreached → AtMost no_weight (cost_by t c i)
    on (inl h) = rw (cost_by_none t c i h) (omega (arith, sums))
    on (inr h) =
        let q : Reached t c l u = n.reached u (z.within.arrives i b) h in
        let rest : AtMost no_weight (c u) =
        rw q.costs at (rising_cost t z.within r u q.path (z.within.arrives i b) (record { goes = q.goes; final = q.final })) in
        let w : AtMost no_weight (arc t i).weight = r.arcs i b in
        rw (cost_by_some t c i h) (omega (arith, sums))

writes_one : (x : ℕ) → 0 < x → labels_of x ≡ 1
unfolding labels_of
writes_one x p = rw (ne_eqb x 0 (λ e. omega arith)) refl

pub none_nearer : (t : Transducer) (c : ℕ → Weight) (l : ℕ → Size) (i : ℕ) → 0 < (arc t i).output → (bar : Weight) → AtMost bar (cost_by t c i)
    → (x : Weight) (k : Size) → is_nearest bar x k ≡ true → NoWorse x k (cost_by t c i) (size_by t l i)
unfolding is_nearest size_by longer
none_nearer t c l i some bar up x k h =
    let both = and-true (at_most x bar) (leb (packed k) 65537) h in
    let low : AtMost x bar = omega (arith, sums, both.0) in
    let few : k.arcs + 65536 * k.labels ≤ 65537 = leb-true (packed k) 65537 both.1 in
    let one : labels_of (arc t i).output ≡ 1 = writes_one (arc t i).output some in
    record { cost = omega (arith, sums, up); labels = λ _. omega arith; arcs = λ _ q. omega arith }

pub nothing_nearer : (t : Transducer) → Sized t → Rising t → (c : ℕ → Weight) (l : ℕ → Size) → Tentative t c l → (i : ℕ) → i < length t.arcs
    → (x : Weight) (k : Size) → is_nearest no_weight x k ≡ true → NoWorse x k (cost_by t c i) (size_by t l i)
nothing_nearer t z r c l n i b = none_nearer t c l i (r.writes i b) no_weight (rising_by t z r c l n i b)

-- A cost from the least on, and 2,000,000,000 more, is the number that it is.
rise_is : (x : Weight) → AtMost least_cost x → plus x (amount 2000000000) ≡ amount (magnitude (plus x (amount 2000000000)))
rise_is x h = omega (arith, sums, magnitude_is (plus x (amount 2000000000)), size (plus x (amount 2000000000)), sum x (amount 2000000000))

-- An arc that would make its source better.
module _ (t : Transducer) (z : Sized t) (c : ℕ → Weight) (l : ℕ → Size) (n : Tentative t c l) (i : ℕ) (b : i < length t.arcs)
    (win : Nearer (cost_by t c i) (size_by t l i) (c (arc t i).source) (l (arc t i).source)) where
  abbrev src : ℕ
  src = (arc t i).source

  abbrev dst : ℕ
  dst = (arc t i).target

  -- Where there is no path from a state its size is that of the empty path.
  there : Below (cost_by t c i) unreached
  there = on (either (cost_by t c i) unreached)
    where
      empty : NoWorse (c src) (l src) (own_cost t src) no_size
      empty = n.empty src (z.within.leaves i b)

      on : AtMost unreached (cost_by t c i) ⊎ Below (cost_by t c i) unreached → Below (cost_by t c i) unreached
      on (inl h) =
          let high : AtMost (c src) unreached = n.high src (z.within.leaves i b) in
          let same : AtMost (c src) (cost_by t c i) = omega (arith, sums) in
          let own : AtMost (own_cost t src) (c src) = omega (arith, sums, (own_most t z src).0, win.cost) in
          let none : (l src).labels ≤ 0 = empty.labels own in
          absurd (omega (arith, win.arcs same (omega arith), empty.arcs own (omega arith)))
      on (inr h) = h

  behind : Reached t c l dst
  behind = n.reached dst (z.within.arrives i b) (cost_by_there t c i there)

  abbrev way : List ℕ
  way = i ∷ behind.path

  way_accepts : Accepting t src way
  way_accepts =
      cons_accepting t src i behind.path (record { below = b; leaves = refl; rest = record { goes = behind.goes; final = behind.final } })

  way_costs : cost_from t src way ≡ cost_by t c i
  way_costs =
      cost_cons t src i behind.path
      ∙ (ap (λ (x : Weight). plus (arc t i).weight x) behind.costs ∙ sym (cost_by_some t c i (cost_by_there t c i there)))

  way_size : size_of t way ≡ size_by t l i
  unfolding size_by
  way_size = size_cons t i behind.path ∙ ap (longer (arc t i).output) behind.size

  way_arcs : length way ≡ (size_by t l i).arcs
  unfolding size_of
  way_arcs = ap (λ (x : Size). x.arcs) way_size

  -- A cycle that begins at the source is gone round because that makes it better; others were before.
  way_cycles : (lead cycle rest : List ℕ) → way ≡ lead ++ (cycle ++ rest) → 0 < length cycle → ends t src (lead ++ cycle) ≡ ends t src lead
      → Below (arcs_cost t cycle) no_weight
  unfolding ends
  way_cycles [] [] rest e some back = absurd (omega arith)
  way_cycles [] (j ∷ cycle) rest e some back =
      let same : i ≡ j = cc in
      let whole : behind.path ≡ cycle ++ rest = cc in
      let home : ends t dst cycle ≡ src = rw (← same) at back in
      let old : NoWorse (c (ends t dst cycle)) (l (ends t dst cycle)) (cost_from t (ends t dst cycle) rest) (size_of t rest) =
      behind.along cycle rest whole in
      let old' : NoWorse (c src) (l src) (cost_from t src rest) (size_of t rest) = rw home at old in
      let now' : Nearer (cost_by t c i) (size_by t l i) (cost_from t src rest) (size_of t rest) = nearer_through win old' in
      let costs : cost_by t c i ≡ plus (arcs_cost t (i ∷ cycle)) (cost_from t src rest) =
      sym way_costs ∙ (ap (λ (p : List ℕ). cost_from t src (i ∷ p)) whole ∙ cost_round t src (i ∷ cycle) rest home) in
      let long : size_by t l i ≡ size_of t ((i ∷ cycle) ++ rest) = sym way_size ∙ ap (λ (p : List ℕ). size_of t (i ∷ p)) whole in
      let more = size_behind t (i ∷ cycle) rest (omega arith) in
      let more_labels : (size_of t rest).labels ≤ (size_by t l i).labels = rw long more.0 in
      let more_arcs : (size_of t rest).arcs < (size_by t l i).arcs = rw long more.1 in
      rw (← same)
      (less (arcs_cost t (i ∷ cycle)) (cost_from t src rest) (rw costs at now'.cost) (λ h. omega (arith, now'.arcs (rw costs h) more_labels)))
    where
      less : (a x : Weight) → AtMost (plus a x) x → (AtMost x (plus a x) → ⊥) → Below a no_weight
      less a x le strict = on (either a no_weight)
        where
          on : AtMost no_weight a ⊎ Below a no_weight → Below a no_weight
          on (inl h) = absurd (strict (omega (arith, sums)))
          on (inr h) = h
  way_cycles (j ∷ lead) cycle rest e some back =
      let same : i ≡ j = cc in
      let whole : behind.path ≡ lead ++ (cycle ++ rest) = cc in
      behind.cycles lead cycle rest whole some (rw (← same) at back)

  -- A path of as many arcs as there are states comes back to a state.
  pub way_falls : t.states ≤ (size_by t l i).arcs → NegativeCycleFrom t (arc t i).source
  way_falls h =
      let r : Cycle t src way = long_has_cycle t z.within src way (z.within.leaves i b) way_accepts.goes (omega (arith, way_arcs)) in
      cycle_falling t src way r way_accepts (way_cycles r.lead r.cycle r.rest r.whole r.some r.back)

  -- Otherwise it is put: costs and sizes are still on their way, their sum falls, a state that no arc made better stays as it is, and no arc makes
  -- its source better that did not before, nor this one, unless it leads to what got better.
  module _ (few : (size_by t l i).arcs < t.states) (c' : ℕ → Weight) (l' : ℕ → Size) (pc : Put c (arc t i).source (cost_by t c i) c')
      (pl : Put l (arc t i).source (size_by t l i) l') where
    -- What was no better than before is no better now.
    still : (u : ℕ) (y : Weight) (m : Size) → NoWorse (c u) (l u) y m → NoWorse (c' u) (l' u) y m
    still u y m old = on (ℕ_discrete u src)
      where
        on : Dec (u ≡ src) → NoWorse (c' u) (l' u) y m
        on (yes e) =
            let old' : NoWorse (c src) (l src) y m = rw e at old in
            rw (e, pc.here, pl.here) (no_worse_through (nearer_no_worse win) old')
        on (no e) = rw (pc.others u e, pl.others u e) old

    way_along : (lead rest : List ℕ) → way ≡ lead ++ rest
        → NoWorse (c' (ends t src lead)) (l' (ends t src lead)) (cost_from t (ends t src lead) rest) (size_of t rest)
    unfolding ends
    way_along [] rest e =
        rw (← e, pc.here, pl.here, way_costs) (rw way_size (no_worse_same (cost_by t c i) (size_by t l i)))
    way_along (j ∷ lead) rest e =
        let same : i ≡ j = cc in
        let whole : behind.path ≡ lead ++ rest = cc in
        rw (← same)
        (still (ends t dst lead) (cost_from t (ends t dst lead) rest) (size_of t rest) (behind.along lead rest whole))

    reached_here : Reached t c' l' src
    reached_here =
        record {
          path = way;
          goes = way_accepts.goes;
          final = way_accepts.final;
          costs = way_costs ∙ sym pc.here;
          size = way_size ∙ sym pl.here;
          few = omega (arith, way_arcs, few);
          along = way_along;
          cycles = way_cycles;
        }

    reached_other : (u : ℕ) → (u ≡ src → ⊥) → Reached t c l u → Reached t c' l' u
    reached_other u o r =
        record {
          path = r.path;
          goes = r.goes;
          final = r.final;
          costs = r.costs ∙ sym (pc.others u o);
          size = r.size ∙ sym (pl.others u o);
          few = r.few;
          along = λ lead rest e. still (ends t u lead) (cost_from t (ends t u lead) rest) (size_of t rest) (r.along lead rest e);
          cycles = r.cycles;
        }

    pub put_nearing : Tentative t c' l'
    put_nearing =
        record {
          high = λ x h. high x h (ℕ_discrete x src);
          reached = λ x h. reached x h (ℕ_discrete x src);
          empty = λ x h. still x (own_cost t x) no_size (n.empty x h);
        }
      where
        high : (x : ℕ) → x < t.states → Dec (x ≡ src) → AtMost (c' x) unreached
        high x h (yes e) = rw (e, pc.here) (omega (arith, sums, there))
        high x h (no e) = rw (pc.others x e) (n.high x h)

        reached : (x : ℕ) → x < t.states → Dec (x ≡ src) → Below (c' x) unreached → Reached t c' l' x
        reached x h (yes e) k = rw e reached_here
        reached x h (no e) k = reached_other x e (n.reached x h (rw (pc.others x e) at k))

    pub put_labels : (size_by t l i).labels ≤ (size_by t l i).arcs
    put_labels = rw way_size at (size_few t way)

    pub put_bounded : Bounded 1024000000 (cost_by t c i)
    put_bounded = rw pc.here at (reached_bounded t z c' l' src reached_here)

    pub put_falls : ((s : ℕ) → AtMost least_cost (c s)) → total t.states (height c' l') < total t.states (height c l)
    unfolding height
    put_falls low =
        total_grows t.states src (height c' l') (height c l) (z.within.leaves i b) here (λ x e. rw (pc.others x e, pl.others x e) refl)
      where
        lower : (x : Weight) (k : Size) (y : Weight) (m : Size) → Nearer x k y m → AtMost least_cost x → AtMost least_cost y → k.labels < 65536
            → k.arcs < 65536
            → 65536 * (65536 * magnitude (plus x (amount 2000000000)) + k.labels) + k.arcs
            < 65536 * (65536 * magnitude (plus y (amount 2000000000)) + m.labels) + m.arcs
        lower x k y m w p q small short = on (either x y)
          where
            ex : plus x (amount 2000000000) ≡ amount (magnitude (plus x (amount 2000000000)))
            ex = rise_is x p

            ey : plus y (amount 2000000000) ≡ amount (magnitude (plus y (amount 2000000000)))
            ey = rise_is y q

            le : AtMost x y
            le = w.cost

            same_cost : AtMost y x → magnitude (plus x (amount 2000000000)) ≡ magnitude (plus y (amount 2000000000))
            same_cost e = omega (arith, sums, ex, ey)

            labels : AtMost y x → (b : Bool) → leb m.labels k.labels ≡ b
                → 65536 * (65536 * magnitude (plus x (amount 2000000000)) + k.labels) + k.arcs
                < 65536 * (65536 * magnitude (plus y (amount 2000000000)) + m.labels) + m.arcs
            labels e true h =
                let most : m.labels ≤ k.labels = leb-true m.labels k.labels h in
                omega (arith, w.arcs e most, w.labels e, same_cost e)
            labels e false h = omega (arith, leb-false m.labels k.labels h, same_cost e)

            on : AtMost y x ⊎ Below x y
                → 65536 * (65536 * magnitude (plus x (amount 2000000000)) + k.labels) + k.arcs
                < 65536 * (65536 * magnitude (plus y (amount 2000000000)) + m.labels) + m.arcs
            on (inl e) = labels e (leb m.labels k.labels) refl
            on (inr e) =
                let less : magnitude (plus x (amount 2000000000)) < magnitude (plus y (amount 2000000000)) = omega (arith, sums, ex, ey) in
                omega arith

        bounded : Bounded 1024000000 (cost_by t c i)
        bounded = put_bounded

        here : height c' l' src < height c l src
        here =
            rw (pc.here, pl.here)
            (lower (cost_by t c i) (size_by t l i) (c src) (l src) win (omega (arith, sums, bounded.down)) (low src)
            (omega (arith, put_labels, few, z.states)) (omega (arith, few, z.states)))

    -- A state that no arc makes better is another one.
    put_nearest : Rising t → (u : ℕ) → is_nearest no_weight (c u) (l u) ≡ true → is_nearest no_weight (c' u) (l' u) ≡ true
    put_nearest r u e = rw (pc.others u other, pl.others u other) e
      where
        other : u ≡ src → ⊥
        other q = nearer_not win (nothing_nearer t z r c l n i b (c src) (l src) (rw q at e))

    put_settles : (x : ℕ) → (x ≡ i) ⊎ NoWorse (c (arc t x).source) (l (arc t x).source) (cost_by t c x) (size_by t l x)
        → ((arc t x).target ≡ src → ⊥) → NoWorse (c' (arc t x).source) (l' (arc t x).source) (cost_by t c' x) (size_by t l' x)
    put_settles x old o =
        rw (cost_by_same t c c' x (pc.others (arc t x).target o), size_by_same t l l' x (pl.others (arc t x).target o)) (on old)
      where
        on : (x ≡ i) ⊎ NoWorse (c (arc t x).source) (l (arc t x).source) (cost_by t c x) (size_by t l x)
            → NoWorse (c' (arc t x).source) (l' (arc t x).source) (cost_by t c x) (size_by t l x)
        on (inl e) = rw (e, pc.here, pl.here) (no_worse_same (cost_by t c i) (size_by t l i))
        on (inr w) = still (arc t x).source (cost_by t c x) (size_by t l x) w

-- What is left in each case, by the comparison of the arc's cost and size with those of its source.
pub record Relaxes (t : Transducer) (i : ℕ) (cs : List Weight) (ls : Sizes) (s : ℕ) (cost : Weight) (len : ℕ) (r : Bool) : Type 0 where
  pub same : r ≡ false → Relaxed t i cs ls cs ls Kept
  pub long : r ≡ true → t.states ≤ (unpacked len).arcs → Relaxed t i cs ls cs ls TooLong
  pub put : r ≡ true → (unpacked len).arcs < t.states → Relaxed t i cs ls (set cs s cost) (set ls s len) Better

-- Relaxing an arc, as it was read and with the sums as they were made.
module _ (t : Transducer) (z : Sized t) (cs : List Weight) (ls : Sizes) (cells : Cells t.states cs ls) (n : Tentative t (cost_at cs) (by_state ls)) (i : ℕ)
    (b : i < length t.arcs) (a : Arc) (is : a ≡ arc t i) where
  abbrev c : ℕ → Weight
  c = cost_at cs

  abbrev l : ℕ → Size
  l = by_state ls

  abbrev s : ℕ
  s = (arc t i).source

  pub relaxed_states : (a.source < t.states) × (a.target < t.states)
  relaxed_states = rw is (z.within.leaves i b, z.within.arrives i b)

  same : NoBetter t cs ls i → Relaxed t i cs ls cs ls Kept
  same w =
      record {
        cells = cells;
        nearing = n;
        nearest = λ r u e. e;
        others = λ u o. refl;
        settles = λ x old short free. on x old;
        falls = omega arith;
        negative_cycle = λ e. cc;
      }
    where
      on : (x : ℕ) → (x ≡ i) ⊎ NoBetter t cs ls x → NoBetter t cs ls x
      on x (inl e) = rw e w
      on x (inr o) = o

  long : Nearer (cost_by t c i) (size_by t l i) (c s) (l s) → t.states ≤ (size_by t l i).arcs → Relaxed t i cs ls cs ls TooLong
  long w h =
      record {
        cells = cells;
        nearing = n;
        nearest = λ r u e. e;
        others = λ u o. refl;
        settles = λ x old short free. absurd (short refl);
        falls = omega arith;
        negative_cycle = λ e. way_falls t z c l n i b w h;
      }

  put : (len : ℕ) → unpacked len ≡ size_by t l i → Nearer (cost_by t c i) (size_by t l i) (c s) (l s) → (size_by t l i).arcs < t.states
      → Relaxed t i cs ls (set cs s (cost_by t c i)) (set ls s len) Better
  put len el w few =
      record {
        cells =
            record {
              costs = omega (arith, length-set cs s (cost_by t c i), cells.costs);
              lens = omega (arith, length-set ls s len, cells.lens);
              low = λ u. low u (ℕ_discrete u s);
              high = λ u. high u (ℕ_discrete u s);
              few_labels = λ u. few_labels u (ℕ_discrete u s);
              few = λ u. few_arcs u (ℕ_discrete u s);
            };
        nearing = put_nearing t z c l n i b w few c' l' put_cost put_arcs;
        nearest = put_nearest t z c l n i b w few c' l' put_cost put_arcs;
        others = put_cost.others;
        settles = λ x old short free. put_settles t z c l n i b w few c' l' put_cost put_arcs x old (free refl);
        falls = omega (arith, put_falls t z c l n i b w few c' l' put_cost put_arcs cells.low);
        negative_cycle = λ e. cc;
      }
    where
      c' : ℕ → Weight
      c' = cost_at (set cs s (cost_by t c i))

      l' : ℕ → Size
      l' = by_state (set ls s len)

      put_cost : Put c s (cost_by t c i) c'
      put_cost = set_put no_weight cs s (cost_by t c i) (omega (arith, z.within.leaves i b, cells.costs))

      put_arcs : Put l s (size_by t l i) l'
      put_arcs = rw el at (sizes_put ls s len (omega (arith, z.within.leaves i b, cells.lens)))

      bounded : Bounded 1024000000 (cost_by t c i)
      bounded = put_bounded t z c l n i b w few c' l' put_cost put_arcs

      low : (u : ℕ) → Dec (u ≡ s) → AtMost least_cost (c' u)
      low u (yes e) = rw (e, put_cost.here) (omega (arith, sums, bounded.down))
      low u (no e) = rw (put_cost.others u e) (cells.low u)

      high : (u : ℕ) → Dec (u ≡ s) → AtMost (c' u) unreached
      high u (yes e) = rw (e, put_cost.here) (omega (arith, sums, bounded.up))
      high u (no e) = rw (put_cost.others u e) (cells.high u)

      few_labels : (u : ℕ) → Dec (u ≡ s) → (l' u).labels ≤ max_states
      few_labels u (yes e) =
          let q : (l' u).labels ≡ (size_by t l i).labels = ap (λ (x : Size). x.labels) (ap l' e ∙ put_arcs.here) in
          omega (arith, put_labels t z c l n i b w few c' l' put_cost put_arcs, few, z.states)
      few_labels u (no e) = let q : (l' u).labels ≡ (l u).labels = ap (λ (x : Size). x.labels) (put_arcs.others u e) in omega (arith, cells.few_labels u)

      few_arcs : (u : ℕ) → Dec (u ≡ s) → (l' u).arcs ≤ max_states
      few_arcs u (yes e) =
          let q : (l' u).arcs ≡ (size_by t l i).arcs = ap (λ (x : Size). x.arcs) (ap l' e ∙ put_arcs.here) in
          omega (arith, few, z.states)
      few_arcs u (no e) = let q : (l' u).arcs ≡ (l u).arcs = ap (λ (x : Size). x.arcs) (put_arcs.others u e) in omega (arith, cells.few u)

  -- An arc that is dearer, whatever its size.
  pub relaxed_dearer : (cost : Weight) → cost ≡ onward a.weight (cost_at cs a.target) → Below (cost_at cs a.source) cost
      → Relaxed t i cs ls cs ls Kept
  unfolding cost_by
  relaxed_dearer cost ec h =
      let e : cost ≡ cost_by t c i = rw is at ec in
      let less : Below (c s) (cost_by t c i) = rw (is, e) at h in
      same (record {
        cost = omega (arith, sums, less);
        labels = λ u. absurd (omega (arith, sums, less));
        arcs = λ u _. absurd (omega (arith, sums, less));
      })

  module _ (cost : Weight) (len : ℕ) (ec : cost ≡ onward a.weight (cost_at cs a.target))
      (el : unpacked len ≡ longer a.output (by_state ls a.target)) where
    cost_is : cost ≡ cost_by t c i
    unfolding cost_by
    cost_is = rw is at ec

    len_is : unpacked len ≡ size_by t l i
    unfolding size_by
    len_is = rw is at el

    pub relaxes : {r : Bool} → r ≡ nearer cost (unpacked len) (cost_at cs a.source) (by_state ls a.source) → Relaxes t i cs ls a.source cost len r
    relaxes {r} e =
        record {
          same = λ q.
              let w : NoWorse (cost_at cs a.source) (by_state ls a.source) cost (unpacked len) =
              nearer_false cost (unpacked len) (cost_at cs a.source) (by_state ls a.source) (sym e ∙ q) in
              same (rw (is, cost_is, len_is) at w);
          long = λ q h. long (wins q) (rw len_is at h);
          put = λ q h. rw (is, cost_is) (put len len_is (wins q) (rw len_is at h));
        }
      where
        wins : r ≡ true → Nearer (cost_by t c i) (size_by t l i) (c s) (l s)
        wins q =
            let w : Nearer cost (unpacked len) (cost_at cs a.source) (by_state ls a.source) =
            nearer_true cost (unpacked len) (cost_at cs a.source) (by_state ls a.source) (sym e ∙ q) in
            rw (is, cost_is, len_is) at w
