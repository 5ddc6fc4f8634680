-- A sweep by states where each arc leads to a higher state: `Going` says what holds along the arcs of a state, `Floored` along the states. Assumes nothing.
use mathlib.Core.Path.{◌≡◌, refl, sym, ◌∙◌}
use mathlib.Core.Bool.{Bool, true, false}
use mathlib.Core.Logic.{◌⊎◌, inl, inr}
use mathlib.Core.List.{List}
use Prim.Native.Nat.{ℕ, ◌+◌, ◌-◌, ◌≤◌, ◌<◌}
use native.Mathlib.Omega.{arith}
use native.Mathlib.Decide.{ℕ_discrete}
use lib.Dec.{ltb}
use lib.ListN.{length}
use borrow.Author.Tests.{ltb-true, ltb-false}
use Rattle.wire.proofs.Bool.{never}
use Rattle.transducer.specs.Format.{Transducer}
use Rattle.transducer.specs.Path.{arc}
use Rattle.transducer.specs.Weight.{Weight, no_weight, AtMost, Below, below}
use Rattle.transducer.specs.Accepted.{arcs_below}
use Rattle.transducer.proofs.Weights.{sums, sum, either}
use Rattle.transducer.proofs.Index.{arcs_of_state, arcs_below_mono}
use Rattle.reach.proofs.Sized.{Sized}
use Rattle.paths.proofs.Ready.{Range, range_leaves}
use Rattle.relax.specs.Tentative.{Sizes, unreached, cost_at, by_state, onward, cost_by, is_nearest, Tentative, Cells, NoBetter, Relaxed}
use Rattle.relax.specs.declared.relaxing.Change.{Change}
use Rattle.relax.specs.declared.relaxing.Change.TheVariants.{TooLong}
use Rattle.relax.specs.Tentative.{least_cost, Writes, Forward, LeadsUp}
use Rattle.relaxation.specs.Swept.{SweptSays, Leave, Barred, SweptFrom, StateSwept}
use Rattle.relax.proofs.Bounds.{cost_by_some, cost_by_none}
use Rattle.relax.proofs.Relaxed.{none_nearer, cost_by_same}

-- The arcs of state s are relaxed from i on.
pub record Going (t : Transducer) (s from to : ℕ) (bar : Weight) (cs₀ : List Weight) (i : ℕ) (cs : List Weight) (ls : Sizes) : Type 0 where
  pub place : i ≤ to
  pub swept : SweptFrom t i cs ls
  pub others : (u : ℕ) → (u ≡ s → ⊥) → cost_at cs u ≡ cost_at cs₀ u
  pub barred : Barred t from to bar cs

module _ (t : Transducer) (up : LeadsUp t) (writes : Writes t) (s from to : ℕ) (own : Leave t s from to) (bar : Weight) (cs₀ : List Weight) (i : ℕ)
    (cs : List Weight) (ls : Sizes) (k : Going t s from to bar cs₀ i cs ls) where
  -- The rest of the arcs is passed over.
  pub going_passed : is_nearest bar (cost_at cs s) (by_state ls s) ≡ true → StateSwept t s from cs₀ cs ls false
  going_passed e =
      record {
        cells = k.swept.cells;
        nearing = k.swept.nearing;
        others = k.others;
        settled = λ _.
            record { cells = k.swept.cells; nearing = k.swept.nearing; settled = λ x a b. settled x a b (ltb x i) refl };
      }
    where
      settled : (x : ℕ) → from ≤ x → x < length t.arcs → (v : Bool) → ltb x i ≡ v → NoBetter t cs ls x
      settled x a b false f = k.swept.settled x (ltb-false x i f) b
      settled x a b true f =
          let inside : x < to = omega (arith, ltb-true x i f, k.place) in
          let src : (arc t x).source ≡ s = own.here x a inside in
          rw src
          (none_nearer t (cost_at cs) (by_state ls) x (writes x b) bar (k.barred x a inside) (cost_at cs s) (by_state ls s) e)

  module _ (h : from < i) where
    module _ (cs' : List Weight) (ls' : Sizes) (change : Change) (r : Relaxed t (i - 1) cs ls cs' ls' change) where
      src : (arc t (i - 1)).source ≡ s
      src = own.here (i - 1) (omega arith) (omega (arith, k.place))

      others : (u : ℕ) → (u ≡ s → ⊥) → cost_at cs' u ≡ cost_at cs₀ u
      others u o = r.others u (λ e. o (e ∙ src)) ∙ k.others u o

      pub going_long : StateSwept t s from cs₀ cs' ls' true
      going_long = record { cells = r.cells; nearing = r.nearing; others = others; settled = λ e. never (sym e) }

      pub going_next : (change ≡ TooLong → ⊥) → Going t s from to bar cs₀ (i - 1) cs' ls'
      going_next short =
          record {
            place = omega (arith, k.place);
            swept = record { cells = r.cells; nearing = r.nearing; settled = λ x a b. settled x a b (ℕ_discrete x (i - 1)) };
            others = others;
            barred = λ x a b.
                let o : (arc t x).target ≡ s → ⊥ = (λ e. omega (arith, up x (omega (arith, own.inside)), own.here x a b)) in
                let o' : (arc t x).target ≡ (arc t (i - 1)).source → ⊥ = (λ e. o (e ∙ src)) in
                rw (cost_by_same t (cost_at cs) (cost_at cs') x (r.others (arc t x).target o')) (k.barred x a b);
          }
        where
          high : (x : ℕ) → i - 1 ≤ x → x < length t.arcs → (v : Bool) → ltb x to ≡ v → s ≤ (arc t x).source
          high x a b true f = omega (arith, own.here x (omega arith) (ltb-true x to f))
          high x a b false f = own.behind x (ltb-false x to f) b

          away : (x : ℕ) → i - 1 ≤ x → x < length t.arcs → (arc t x).target ≡ (arc t (i - 1)).source → ⊥
          away x a b e = omega (arith, up x b, high x a b (ltb x to) refl, src)

          settled : (x : ℕ) → i - 1 ≤ x → x < length t.arcs → Dec (x ≡ i - 1) → NoBetter t cs' ls' x
          settled x a b (yes e) = r.settles x (inl e) short (λ v same. away x a b same)
          settled x a b (no e) = r.settles x (inr (k.swept.settled x (omega arith) b)) short (λ v same. away x a b same)

-- The arcs from those of state s on leave no state below it.
module _ (t : Transducer) (z : Sized t) (s : ℕ) (x : ℕ) (b : x < length t.arcs) where
  pub above : arcs_below s t.arcs ≤ x → s ≤ (arc t x).source
  above h = on (ltb (arc t x).source s) refl
    where
      on : (v : Bool) → ltb (arc t x).source s ≡ v → s ≤ (arc t x).source
      on false f = ltb-false (arc t x).source s f
      on true f =
          absurd
          (omega (
            arith,
            (arcs_of_state t x (arc t x).source z.content b refl).1,
            arcs_below_mono ((arc t x).source + 1) s t.arcs
                (omega (arith, ltb-true (arc t x).source s f)),
          ))

  pub behind : s ≤ (arc t x).source → arcs_below s t.arcs ≤ x
  behind h = omega (arith, (arcs_of_state t x (arc t x).source z.content b refl).0, arcs_below_mono s (arc t x).source t.arcs h)

pub range_leave : (t : Transducer) → Sized t → (s from to : ℕ) → s < t.states → Range t s from to → Leave t s from to
range_leave t z s from to h r =
    record {
      state = h;
      inside = r.inside;
      here = range_leaves t z.content s from to r;
      behind = λ i a b. omega (arith, above t z (s + 1) i b (omega (arith, r.to_is)));
    }

-- A weight of at most zero and the least cost of some states: none of the arcs that lead there gives a cost below that.
onward_least : (t : Transducer) (least floor : Weight) (c : ℕ → Weight) (i : ℕ) → AtMost least no_weight → AtMost least (arc t i).weight
    → AtMost floor (c (arc t i).target) → AtMost floor unreached → AtMost (onward least floor) (cost_by t c i)
unfolding onward
onward_least t least floor c i low light f high = on (either (c (arc t i).target) unreached)
  where
    u : ℕ
    u = (arc t i).target

    bar : AtMost (onward least floor) unreached
    bar = at (either floor unreached)
      where
        at : AtMost unreached floor ⊎ Below floor unreached → AtMost (onward least floor) unreached
        at (inl h) = let e : below floor unreached ≡ false = omega (arith, sums) in rw e (omega (arith, sums))
        at (inr h) = let e : below floor unreached ≡ true = omega (arith, sums) in rw e (omega (arith, sums, sum least floor))

    on : AtMost unreached (c u) ⊎ Below (c u) unreached → AtMost (onward least floor) (cost_by t c i)
    on (inl h) = rw (cost_by_none t c i h) bar
    on (inr h) =
        let e : below floor unreached ≡ true = omega (arith, sums) in
        rw (cost_by_some t c i h, e) (omega (arith, sums, sum least floor, sum (arc t i).weight (c u)))

-- The states from s on are swept, and no cost of theirs is below the floor.
pub record Floored (t : Transducer) (s : ℕ) (floor : Weight) (cs : List Weight) (ls : Sizes) : Type 0 where
  pub place : s ≤ t.states
  pub swept : SweptFrom t (arcs_below s t.arcs) cs ls
  pub low : AtMost least_cost floor
  pub high : AtMost floor unreached
  pub floors : (u : ℕ) → s ≤ u → u < t.states → AtMost floor (cost_at cs u)

pub floored_first : (t : Transducer) → Sized t → (n : ℕ) → n ≡ t.states → (cs : List Weight) (ls : Sizes) → Cells t.states cs ls
    → Tentative t (cost_at cs) (by_state ls) → Floored t n unreached cs ls
floored_first t z n e cs ls cells near =
    record {
      place = omega arith;
      swept = record { cells = cells; nearing = near; settled = λ x a b. absurd (omega (arith, above t z n x b a, z.within.leaves x b)) };
      low = omega (arith, sums);
      high = omega (arith, sums);
      floors = λ u a b. absurd (omega arith);
    }

module _ (t : Transducer) (z : Sized t) (s : ℕ) (floor : Weight) (cs : List Weight) (ls : Sizes) (k : Floored t s floor cs ls) where
  pub floored_stop : s ≤ 0 → SweptSays t cs ls false
  floored_stop h =
      record {
        cells = k.swept.cells;
        nearing = k.swept.nearing;
        settled = λ q.
            record {
              nearing = k.swept.nearing;
              onwards = λ x b m. refl;
              by_arc = λ x b m. k.swept.settled x (behind t z s x b (omega arith)) b;
            };
      }

  module _ (h : 0 < s) (from to : ℕ) (r : Range t (s - 1) from to) where
    pub floored_from : SweptFrom t to cs ls
    floored_from =
        record {
          cells = k.swept.cells;
          nearing = k.swept.nearing;
          settled = λ x a b.
              let e : to ≡ arcs_below (s - 1 + 1) t.arcs = r.to_is in
              let src : s - 1 + 1 ≤ (arc t x).source = above t z (s - 1 + 1) x b (omega arith) in
              k.swept.settled x (behind t z s x b (omega arith)) b;
        }

    pub floored_barred : (least : Weight) → Forward t least → (bar : Weight) → bar ≡ onward least floor → Barred t from to bar cs
    floored_barred least f bar e x a b =
        let inside : x < length t.arcs = omega (arith, r.inside) in
        let src : (arc t x).source ≡ s - 1 = range_leaves t z.content (s - 1) from to r x a b in
        let there : AtMost floor (cost_at cs (arc t x).target) =
        k.floors (arc t x).target (omega (arith, f.up x inside)) (z.within.arrives x inside) in
        rw e (onward_least t least floor (cost_at cs) x f.negative (f.light x inside) there k.high)

    pub floored_next : (cs' : List Weight) (ls' : Sizes) {r' : Bool} → StateSwept t (s - 1) from cs cs' ls' r' → r' ≡ false → (floor' : Weight)
        → AtMost floor' floor → AtMost floor' (cost_at cs' (s - 1)) → AtMost least_cost floor' → Floored t (s - 1) floor' cs' ls'
    floored_next cs' ls' w q floor' f g low =
        record {
          place = omega (arith, k.place);
          swept = rw (← r.from_is) (w.settled q);
          low = low;
          high = omega (arith, sums, k.high);
          floors = λ u a b. floors u a b (ℕ_discrete u (s - 1));
        }
      where
        floors : (u : ℕ) → s - 1 ≤ u → u < t.states → Dec (u ≡ s - 1) → AtMost floor' (cost_at cs' u)
        floors u a b (yes e) = rw e g
        floors u a b (no e) =
            let old : AtMost floor (cost_at cs u) = k.floors u (omega arith) b in
            rw (w.others u e) (omega (arith, sums))
