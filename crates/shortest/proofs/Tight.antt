-- A state's first tight arc: where some arc is tight, the first that gives its source's cost and size is tight and leaves the same state.
-- Assumes nothing.
use mathlib.Core.Path.{◌≡◌, refl, ap, ◌∙◌}
use mathlib.Core.Bool.{Bool, true, false, not, cond}
use Prim.Native.Nat.{ℕ, zero, suc, ◌+◌, ◌-◌, ◌≤◌, ◌<◌}
use native.Mathlib.Omega.{arith}
use native.Mathlib.Decide.{ℕ_discrete}
use lib.ListN.{length}
use borrow.Author.Tests.{not-true}
use Rattle.wire.proofs.Bool.{clash}
use Rattle.transducer.specs.Format.{Transducer}
use Rattle.transducer.specs.Path.{arc}
use Rattle.transducer.specs.Weight.{Weight}
use Rattle.transducer.specs.Accepted.{arcs_below}
use Rattle.transducer.proofs.Good.{Content}
use Rattle.transducer.proofs.Index.{arcs_below_mono, arcs_of_state, state_of_arcs}
use Rattle.relax.specs.Size.{Size, nearer}
use Rattle.relax.specs.Tentative.{NoWorse, cost_by, size_by}
use Rattle.relax.proofs.Nearer.{no_worse_same, no_worse_both, nearer_false, false_nearer}
use Rattle.shortest.specs.Tight.{Tight, First, gives, first_giving, first_tight, HasArcs}

module _ (t : Transducer) (c : ℕ → Weight) (l : ℕ → Size) (s : ℕ) where
  -- The first arc that gives them, no later than any other.
  pub record FoundFirst (i j v : ℕ) : Type 0 where
    pub gives_them : gives t c l s v ≡ true
    pub low : i ≤ v
    pub high : v ≤ j

  pub first_found : (n i j : ℕ) → i ≤ j → j < i + n → gives t c l s j ≡ true → FoundFirst i j (first_giving n t c l s i)
  unfolding first_giving
  first_found zero i j a b g = absurd (omega arith)
  first_found (suc n) i j a b g = on (gives t c l s i) refl (λ a' b'. first_found n (suc i) j a' b' g)
    where
      on : (d : Bool) → gives t c l s i ≡ d → (suc i ≤ j → j < suc i + n → FoundFirst (suc i) j (first_giving n t c l s (suc i)))
          → FoundFirst i j (cond d i (first_giving n t c l s (suc i)))
      on true e below = record { gives_them = e; low = omega arith; high = a }
      on false e below = behind (ℕ_discrete i j)
        where
          behind : Dec (i ≡ j) → FoundFirst i j (first_giving n t c l s (suc i))
          behind (yes q) = clash {b = gives t c l s i} (rw q g) e
          behind (no q) =
              let f : FoundFirst (suc i) j (first_giving n t c l s (suc i)) = below (omega arith) (omega arith) in
              record { gives_them = f.gives_them; low = omega (arith, f.low); high = f.high }

  -- The arcs from `from` to below i do not give them.
  pub record Seeking (from to i : ℕ) : Type 0 where
    pub low : from ≤ i
    pub high : i ≤ to
    pub whole : first_giving (to - i) t c l s i ≡ first_giving (to - from) t c l s from

  pub seeking_first : (from to : ℕ) → from ≤ to → Seeking from to from
  seeking_first from to h = record { low = omega arith; high = h; whole = refl }

  pub seeking_stop : (from to i : ℕ) → Seeking from to i → to ≤ i → to ≡ first_giving (to - from) t c l s from
  unfolding first_giving
  seeking_stop from to i k h =
      let none : to - i ≡ 0 = omega arith in
      let all : i ≡ first_giving (to - from) t c l s from = rw none at k.whole in
      omega (arith, k.high, all)

  module _ (from to i : ℕ) (x : Weight) (m : Size) (k : Seeking from to i) (h : i < to) (ex : x ≡ cost_by t c i) (em : m ≡ size_by t l i) where
    more : to - i ≡ suc (to - (i + 1))
    more = omega arith

    test : (b : Bool) → not (nearer (c s) (l s) x m) ≡ b → gives t c l s i ≡ b
    unfolding gives
    test b e = rw (ex, em) at e

    pub seeking_here : not (nearer (c s) (l s) x m) ≡ true → i ≡ first_giving (to - from) t c l s from
    unfolding first_giving
    seeking_here e =
        let all : cond (gives t c l s i) i (first_giving (to - (i + 1)) t c l s (suc i)) ≡ first_giving (to - from) t c l s from = rw more at k.whole in
        rw (test true e) at all

    pub seeking_next : not (nearer (c s) (l s) x m) ≡ false → Seeking from to (i + 1)
    unfolding first_giving
    seeking_next e =
        let all : cond (gives t c l s i) i (first_giving (to - (i + 1)) t c l s (suc i)) ≡ first_giving (to - from) t c l s from = rw more at k.whole in
        let one : i + 1 ≡ suc i = omega arith in
        record {
          low = omega (arith, k.low);
          high = omega arith;
          whole = ap (λ (j : ℕ). first_giving (to - (i + 1)) t c l s j) one ∙ (rw (test false e) at all);
        }

  -- More arcs to choose from do not matter where one of the first gives them.
  first_more : (n k i : ℕ) → n ≤ k → first_giving n t c l s i < i + n → first_giving k t c l s i ≡ first_giving n t c l s i
  unfolding first_giving
  first_more zero k i a h = absurd (omega arith)
  first_more (suc n) zero i a h = absurd (omega arith)
  first_more (suc n) (suc k) i a h = on (gives t c l s i) h (λ b. first_more n k (suc i) (omega arith) b)
    where
      on : (d : Bool) → cond d i (first_giving n t c l s (suc i)) < i + suc n
          → (first_giving n t c l s (suc i) < suc i + n → first_giving k t c l s (suc i) ≡ first_giving n t c l s (suc i))
          → cond d i (first_giving k t c l s (suc i)) ≡ cond d i (first_giving n t c l s (suc i))
      on true b more = refl
      on false b more = more (omega (arith, b))

  -- So it is found without knowing where its arcs end.
  pub giving_tight_on : (from to r : ℕ) → HasArcs t s from to → first_tight t c l s < arcs_below (s + 1) t.arcs
      → r ≡ first_giving (to - from) t c l s from → r ≡ first_tight t c l s
  unfolding first_tight
  giving_tight_on from to r k h q =
      let low : arcs_below s t.arcs ≤ arcs_below (s + 1) t.arcs = arcs_below_mono s (s + 1) t.arcs (omega arith) in
      let all : r ≡ first_giving (to - arcs_below s t.arcs) t c l s (arcs_below s t.arcs) = rw k.from_is at q in
      all ∙ first_more (arcs_below (s + 1) t.arcs - arcs_below s t.arcs) (to - arcs_below s t.arcs) (arcs_below s t.arcs)
      (omega (arith, k.to_high)) (omega (arith, h, low))

-- Where no arc of the state makes it better, one that gives its cost and size is tight.
giving_same : (t : Transducer) (c : ℕ → Weight) (l : ℕ → Size) (s v : ℕ) → gives t c l s v ≡ true → NoWorse (c s) (l s) (cost_by t c v) (size_by t l v)
    → (cost_by t c v ≡ c s) × (size_by t l v ≡ l s)
unfolding gives
giving_same t c l s v h n =
    let back : NoWorse (cost_by t c v) (size_by t l v) (c s) (l s) =
    nearer_false (c s) (l s) (cost_by t c v) (size_by t l v) (not-true (nearer (c s) (l s) (cost_by t c v) (size_by t l v)) h) in
    no_worse_both back n

same_gives : (t : Transducer) (c : ℕ → Weight) (l : ℕ → Size) (s v : ℕ) → cost_by t c v ≡ c s → size_by t l v ≡ l s → gives t c l s v ≡ true
unfolding gives
same_gives t c l s v e f =
    let n : nearer (c s) (l s) (cost_by t c v) (size_by t l v) ≡ false = false_nearer (rw (e, f) (no_worse_same (c s) (l s))) in
    rw n refl

pub tight_first : (t : Transducer) → Content t → (c : ℕ → Weight) (l : ℕ → Size) (i : ℕ) → Tight t c l i
    → ((v : ℕ) → v < length t.arcs → (arc t v).source ≡ (arc t i).source
    → NoWorse (c (arc t i).source) (l (arc t i).source) (cost_by t c v) (size_by t l v))
    → First t c l (first_tight t c l (arc t i).source) i
unfolding first_tight
tight_first t good c l i d none =
    let s : ℕ = (arc t i).source in
    let from : ℕ = arcs_below s t.arcs in
    let to : ℕ = arcs_below (s + 1) t.arcs in
    let mine = arcs_of_state t i s good d.below refl in
    let f : FoundFirst t c l s from i (first_giving (to - from) t c l s from) =
    first_found t c l s (to - from) from i mine.0 (omega (arith, mine.0, mine.1)) (same_gives t c l s i d.costs d.size) in
    let v : ℕ = first_giving (to - from) t c l s from in
    let below : v < length t.arcs = omega (arith, f.high, d.below) in
    let leaves : (arc t v).source ≡ s = state_of_arcs t v s good below f.low (omega (arith, f.high, mine.1)) in
    let both = giving_same t c l s v f.gives_them (none v below leaves) in
    record { leaves = leaves; tight = record { below = below; costs = rw leaves both.0; size = rw leaves both.1 }; first = f.high }
