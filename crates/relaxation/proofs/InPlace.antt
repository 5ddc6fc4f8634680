-- A sweep over the arcs in place, last arc first: `Sweeping` says what holds of the arcs that are swept, one law for each way a turn goes. Assumes nothing.
use mathlib.Core.Path.{◌≡◌, refl, sym, ◌∙◌}
use mathlib.Core.Bool.{Bool, true, false, ◌&&◌}
use mathlib.Core.Logic.{◌⊎◌, inl, inr}
use mathlib.Core.List.{List}
use Prim.Native.Nat.{ℕ, ◌+◌, ◌-◌, ◌≤◌, ◌<◌}
use native.Mathlib.Omega.{arith}
use native.Mathlib.Decide.{ℕ_discrete}
use lib.Dec.{ltb}
use lib.ListN.{length}
use borrow.Author.Tests.{ltb-true, ltb-false}
use Rattle.wire.proofs.Bool.{and-true}
use Rattle.transducer.specs.declared.Arc.{Arc}
use Rattle.transducer.specs.Format.{Transducer}
use Rattle.transducer.specs.Path.{arc}
use Rattle.transducer.specs.Weight.{Weight, no_weight}
use Rattle.transducer.specs.Accepted.{arcs_below}
use Rattle.transducer.proofs.Index.{arcs_of_state, state_of_arcs}
use Rattle.reach.proofs.Sized.{Sized}
use Rattle.relax.specs.Tentative.{Sizes, cost_at, by_state, Rising, is_nearest, Tentative, Cells, NoBetter, Relaxed}
use Rattle.relax.specs.declared.relaxing.Change.{Change}
use Rattle.relax.specs.declared.relaxing.Change.TheVariants.{Kept, Better, TooLong}
use Rattle.relax.proofs.Relaxed.{nothing_nearer}

-- A state that no arc makes better where no weight is below zero and each arc writes a label.
abbrev AtBest : (cs : List Weight) → (ls : Sizes) → (s : ℕ) → Type 0
AtBest cs ls s = is_nearest no_weight (cost_at cs s) (by_state ls s) ≡ true

-- The arcs from i on are swept, some passed over where `plain`. None that was read leads to a state below `low`; where no more
-- may change none makes its source better.
pub record Sweeping (t : Transducer) (plain : Bool) (low i : ℕ) (cs : List Weight) (ls : Sizes) (again : Bool) : Type 0 where
  pub below : i ≤ length t.arcs
  pub cells : Cells t.states cs ls
  pub nearing : Tentative t (cost_at cs) (by_state ls)
  pub rising : plain ≡ true → Rising t
  pub ahead : (x : ℕ) → i ≤ x → x < length t.arcs → (low ≤ (arc t x).target) ⊎ ((plain ≡ true) × AtBest cs ls (arc t x).source)
  pub settled : again ≡ false → (x : ℕ) → i ≤ x → x < length t.arcs → NoBetter t cs ls x

-- One arc

module _ (t : Transducer) (z : Sized t) (plain : Bool) (low i : ℕ) (cs : List Weight) (ls : Sizes) (again : Bool) (k : Sweeping t plain low i cs ls again)
    (h : 0 < i) where
  abbrev j : ℕ
  j = i - 1

  abbrev s : ℕ
  s = (arc t (i - 1)).source

  pub sweeping_arc : i - 1 < length t.arcs
  sweeping_arc = omega (arith, k.below)

  pub sweeping_state : ((arc t (i - 1)).source < t.states) × ((arc t (i - 1)).target < t.states)
  sweeping_state = (z.within.leaves (i - 1) sweeping_arc, z.within.arrives (i - 1) sweeping_arc)

  -- The arc is relaxed.
  relaxed : (low' : ℕ) (cs' : List Weight) (ls' : Sizes) (change : Change) (again' : Bool) → low' ≤ low → low' ≤ (arc t j).target
      → (again' ≡ false → (again ≡ false) × (change ≡ TooLong → ⊥) × (change ≡ Better → s < low')) → Relaxed t j cs ls cs' ls' change
      → Sweeping t plain low' j cs' ls' again'
  relaxed low' cs' ls' change again' f g asked r =
      record {
        below = omega (arith, k.below);
        cells = r.cells;
        nearing = r.nearing;
        rising = k.rising;
        ahead = λ x a b. ahead x a b (ℕ_discrete x j);
        settled = λ q x a b. settled q x a b (ℕ_discrete x j);
      }
    where
      lower : (x : ℕ) → (low ≤ (arc t x).target) ⊎ ((plain ≡ true) × AtBest cs ls (arc t x).source)
          → (low' ≤ (arc t x).target) ⊎ ((plain ≡ true) × AtBest cs' ls' (arc t x).source)
      lower x (inl e) = inl (omega arith)
      lower x (inr e) = inr (e.0, r.nearest (k.rising e.0) (arc t x).source e.1)

      ahead : (x : ℕ) → j ≤ x → x < length t.arcs → Dec (x ≡ j) → (low' ≤ (arc t x).target) ⊎ ((plain ≡ true) × AtBest cs' ls' (arc t x).source)
      ahead x a b (yes e) = inl (rw e g)
      ahead x a b (no e) = lower x (k.ahead x (omega arith) b)

      later : again' ≡ false → (x : ℕ) → x < length t.arcs → NoBetter t cs ls x
          → (low ≤ (arc t x).target) ⊎ ((plain ≡ true) × AtBest cs ls (arc t x).source)
          → NoBetter t cs' ls' x
      later q x b old (inl e) = r.settles x (inr old) (asked q).1 (λ v same. omega (arith, (asked q).2 v))
      later q x b old (inr e) =
          nothing_nearer t z (k.rising e.0) (cost_at cs') (by_state ls') r.nearing x b (cost_at cs' (arc t x).source) (by_state ls' (arc t x).source)
          (r.nearest (k.rising e.0) (arc t x).source e.1)

      settled : again' ≡ false → (x : ℕ) → j ≤ x → x < length t.arcs → Dec (x ≡ j) → NoBetter t cs' ls' x
      settled q x a b (yes e) =
          r.settles x (inl e) (asked q).1 (λ v same. let low_here : low' ≤ (arc t x).target = rw e g in omega (arith, (asked q).2 v))
      settled q x a b (no e) = later q x b (k.settled (asked q).0 x (omega arith) b) (k.ahead x (omega arith) b)

  passed : plain ≡ true → AtBest cs ls s → (to : ℕ) → to ≡ arcs_below s t.arcs → Sweeping t plain low to cs ls again
  passed p n to e =
      record {
        below = omega (arith, mine.0, sweeping_arc);
        cells = k.cells;
        nearing = k.nearing;
        rising = k.rising;
        ahead = λ x a b. ahead x a b (ltb x i) refl;
        settled = λ q x a b. settled q x a b (ltb x i) refl;
      }
    where
      mine : (arcs_below s t.arcs ≤ j) × (j < arcs_below (s + 1) t.arcs)
      mine = arcs_of_state t j s z.content sweeping_arc refl

      leaves : (x : ℕ) → to ≤ x → x < length t.arcs → x < i → (arc t x).source ≡ s
      leaves x a b f = state_of_arcs t x s z.content b (omega arith) (omega (arith, mine.1))

      nearest : (x : ℕ) → to ≤ x → x < length t.arcs → x < i → AtBest cs ls (arc t x).source
      nearest x a b f = rw (leaves x a b f) n

      ahead : (x : ℕ) → to ≤ x → x < length t.arcs → (v : Bool) → ltb x i ≡ v
          → (low ≤ (arc t x).target) ⊎ ((plain ≡ true) × AtBest cs ls (arc t x).source)
      ahead x a b true f = inr (p, nearest x a b (ltb-true x i f))
      ahead x a b false f = k.ahead x (ltb-false x i f) b

      settled : again ≡ false → (x : ℕ) → to ≤ x → x < length t.arcs → (v : Bool) → ltb x i ≡ v → NoBetter t cs ls x
      settled q x a b true f =
          nothing_nearer t z (k.rising p) (cost_at cs) (by_state ls) k.nearing x b (cost_at cs (arc t x).source) (by_state ls (arc t x).source)
          (nearest x a b (ltb-true x i f))
      settled q x a b false f = k.settled q x (ltb-false x i f) b

  pub passed_less : (to : ℕ) → to ≡ arcs_below s t.arcs → to < i
  passed_less to e = omega (arith, (arcs_of_state t j s z.content sweeping_arc refl).0)

  -- The same of the arc as it was read.
  module _ (a : Arc) (is : a ≡ arc t (i - 1)) where
    pub sweeping_passed : {r : Bool} → r ≡ is_nearest no_weight (cost_at cs a.source) (by_state ls a.source) → plain && r ≡ true → (to : ℕ)
        → to ≡ arcs_below a.source t.arcs → Sweeping t plain low to cs ls again
    sweeping_passed {r} e q to f =
        let both = and-true plain r q in
        let n : is_nearest no_weight (cost_at cs a.source) (by_state ls a.source) ≡ true = sym e ∙ both.1 in
        passed both.0 (rw is at n) to (rw is at f)

    module _ (low' : ℕ) (cs' : List Weight) (ls' : Sizes) (change : Change) (f : low' ≤ low) (g : low' ≤ a.target)
        (r : Relaxed t (i - 1) cs ls cs' ls' change) where
      pub sweeping_kept : change ≡ Kept → Sweeping t plain low' (i - 1) cs' ls' again
      sweeping_kept q =
          relaxed low' cs' ls' change again f (rw is at g) (λ e. (e, (λ v. cc), (λ v. cc))) r

      pub sweeping_changed : (again' : Bool) → (again' ≡ false → (again ≡ false) × (change ≡ TooLong → ⊥) × (a.source < low'))
          → Sweeping t plain low' (i - 1) cs' ls' again'
      sweeping_changed again' asked =
          let asked' : again' ≡ false → (again ≡ false) × (change ≡ TooLong → ⊥) × ((arc t (i - 1)).source < low') = rw is at asked in
          relaxed low' cs' ls' change again' f (rw is at g) (λ e. ((asked' e).0, (asked' e).1, λ v. (asked' e).2)) r
