-- A path with at least as many arcs as there are states comes back to a state (the pigeonhole): its cycle can be gone round once more
-- (`least`: or left out). Assumes nothing.
use Rattle.std.proofs.Common.{◌≡◌, ℕ, zero, suc, ◌+◌, ◌<◌, ◌≤◌, Bool, true, false, eqb, ◌⊎◌, List, [], ◌∷◌, ◌++◌, length, sym, refl, ap, ◌∙◌, inl, inr, arith, length-append, eqb-true}
use mathlib.Core.List.Memᴰ.{head as first}
use mathlib.Core.List.Memᴰ.{not-nil as none_in}
use mathlib.Core.List.Memᴰ.{tail as later}
use mathlib.Core.List.{Memᴰ as Mem}
use mathlib.Core.List.Memᴰ.{cases_cons as first-or-later}
use mathlib.Core.List.Memᴰ.{cast as carry}
use borrow.Author.Tests.{eqb-false}
use Rattle.transducer.specs.Format.{Transducer}
use Rattle.transducer.specs.Path.{arc, runs, ends}
use Rattle.transducer.proofs.Members.{Distinct, distinct_below}
use Rattle.transducer.proofs.Paths.{Runs, runs_cons}
use Rattle.transducer.proofs.Runs.{Accepting, accepting_append, append_accepting, ends_append, Within}

-- The states that a path visits, its first and its last among them.
unfoldable pub visited : Transducer → (s : ℕ) → (path : List ℕ) → List ℕ
visited t s [] = s ∷ []
visited t s (i ∷ p) = s ∷ visited t (arc t i).target p

pub length_visited : (t : Transducer) (s : ℕ) (p : List ℕ) → length (visited t s p) ≡ suc (length p)
unfolding visited
length_visited t s [] = refl
length_visited t s (i ∷ p) = ap suc (length_visited t (arc t i).target p)

pub visited_below : (t : Transducer) → Within t → (s : ℕ) (p : List ℕ) → s < t.states → runs t s p ≡ true → (x : ℕ) → Mem x (visited t s p) → x < t.states
unfolding visited
visited_below t w s [] b h x m = on (first-or-later m)
  where
    on : (x ≡ s) ⊎ Mem x [] → x < t.states
    on (inl e) = omega arith
    on (inr m') = absurd (none_in m')
visited_below t w s (i ∷ p) b h x m =
    let r : Runs t s i p = runs_cons t s i p h in
    on (λ m'. visited_below t w (arc t i).target p (w.arrives i r.below) r.rest x m') (first-or-later m)
  where
    on : (Mem x (visited t (arc t i).target p) → x < t.states) → (x ≡ s) ⊎ Mem x (visited t (arc t i).target p) → x < t.states
    on below (inl e) = omega arith
    on below (inr m') = below m'

-- A state that is visited: the path up to there, and from there on.
pub record Visit (t : Transducer) (s : ℕ) (p : List ℕ) (x : ℕ) : Type 0 where
  pub lead : List ℕ
  pub rest : List ℕ
  pub whole : p ≡ lead ++ rest
  pub there : ends t s lead ≡ x

pub visit : (t : Transducer) (s : ℕ) (p : List ℕ) (x : ℕ) → Mem x (visited t s p) → Visit t s p x
unfolding visited ends
visit t s [] x m = on (first-or-later m)
  where
    on : (x ≡ s) ⊎ Mem x [] → Visit t s [] x
    on (inl e) = record { lead = []; rest = []; whole = refl; there = sym e }
    on (inr m') = absurd (none_in m')
visit t s (i ∷ p) x m = on (λ m'. visit t (arc t i).target p x m') (first-or-later m)
  where
    on : (Mem x (visited t (arc t i).target p) → Visit t (arc t i).target p x) → (x ≡ s) ⊎ Mem x (visited t (arc t i).target p) → Visit t s (i ∷ p) x
    on below (inl e) = record { lead = []; rest = i ∷ p; whole = refl; there = sym e }
    on below (inr m') =
        let v = below m' in
        record { lead = i ∷ v.lead; rest = v.rest; whole = ap (λ (l : List ℕ). i ∷ l) v.whole; there = v.there }

-- A path that comes back to a state.
pub record Cycle (t : Transducer) (s : ℕ) (p : List ℕ) : Type 0 where
  pub lead : List ℕ
  pub cycle : List ℕ
  pub rest : List ℕ
  pub whole : p ≡ lead ++ (cycle ++ rest)
  pub some : 0 < length cycle
  pub back : ends t s (lead ++ cycle) ≡ ends t s lead

pub in_list : (x : ℕ) (l : List ℕ) → Mem x l ⊎ (Mem x l → ⊥)
in_list x [] = inr (λ m. none_in m)
in_list x (y ∷ l) = on (in_list x l) (eqb x y) refl
  where
    on : Mem x l ⊎ (Mem x l → ⊥) → (b : Bool) → eqb x y ≡ b → Mem x (y ∷ l) ⊎ (Mem x (y ∷ l) → ⊥)
    on below true e = inl (first (eqb-true x y e))
    on (inl m) false e = inl (later m)
    on (inr none) false e = inr (λ m. next (first-or-later m))
      where
        next : (x ≡ y) ⊎ Mem x l → ⊥
        next (inl same) = eqb-false x y e same
        next (inr m) = none m

pub cycle_or_distinct : (t : Transducer) (s : ℕ) (p : List ℕ) → Cycle t s p ⊎ Distinct (λ y. y) (visited t s p)
unfolding Distinct visited ends
cycle_or_distinct t s [] = inr ((λ y m e. none_in m), tt)
cycle_or_distinct t s (i ∷ p) = on (in_list s (visited t (arc t i).target p)) (cycle_or_distinct t (arc t i).target p)
  where
    u : ℕ
    u = (arc t i).target

    on : Mem s (visited t u p) ⊎ (Mem s (visited t u p) → ⊥) → Cycle t u p ⊎ Distinct (λ y. y) (visited t u p)
        → Cycle t s (i ∷ p) ⊎ Distinct (λ y. y) (s ∷ visited t u p)
    on (inl m) below =
        let v : Visit t u p s = visit t u p s m in
        inl (record {
          lead = [];
          cycle = i ∷ v.lead;
          rest = v.rest;
          whole = ap (λ (l : List ℕ). i ∷ l) v.whole;
          some = omega arith;
          back = v.there;
        })
    on (inr none) (inl r) =
        inl (record {
          lead = i ∷ r.lead;
          cycle = r.cycle;
          rest = r.rest;
          whole = ap (λ (l : List ℕ). i ∷ l) r.whole;
          some = r.some;
          back = r.back;
        })
    on (inr none) (inr d) = inr ((λ y m e. none (carry e m)), d)

-- The pigeonhole.
pub long_has_cycle : (t : Transducer) → Within t → (s : ℕ) (p : List ℕ) → s < t.states → runs t s p ≡ true → t.states ≤ length p → Cycle t s p
long_has_cycle t w s p b h long = on (cycle_or_distinct t s p)
  where
    on : Cycle t s p ⊎ Distinct (λ y. y) (visited t s p) → Cycle t s p
    on (inl r) = r
    on (inr d) =
        let few : length (visited t s p) ≤ t.states = distinct_below t.states (visited t s p) d (visited_below t w s p b h) in
        let many : length (visited t s p) ≡ suc (length p) = length_visited t s p in
        absurd (omega arith)

-- A cycle on an accepting path: from its state it leads back there, and the rest is accepting from there.
pub record Round (t : Transducer) (s : ℕ) (lead cycle rest : List ℕ) : Type 0 where
  pub there : runs t s lead ≡ true
  pub around : runs t (ends t s lead) cycle ≡ true
  pub back : ends t (ends t s lead) cycle ≡ ends t s lead
  pub on : Accepting t (ends t s lead) rest

pub cycle_round : (t : Transducer) (s : ℕ) (p : List ℕ) → (r : Cycle t s p) → Accepting t s p → Round t s r.lead r.cycle r.rest
cycle_round t s p r a =
    let u : ℕ = ends t s r.lead in
    let all : Accepting t s (r.lead ++ (r.cycle ++ r.rest)) = rw r.whole at a in
    let one : (runs t s r.lead ≡ true) × Accepting t u (r.cycle ++ r.rest) = accepting_append t s r.lead (r.cycle ++ r.rest) all in
    let two : (runs t u r.cycle ≡ true) × Accepting t (ends t u r.cycle) r.rest = accepting_append t u r.cycle r.rest one.1 in
    let same : ends t u r.cycle ≡ u = sym (ends_append t s r.lead r.cycle) ∙ r.back in
    record { there = one.0; around = two.0; back = same; on = rw same at two.1 }

-- The cycle gone round once more.
pub longer : (t : Transducer) (s : ℕ) (p : List ℕ) → Cycle t s p → Accepting t s p → (q : List ℕ) × Accepting t s q × (length p < length q)
longer t s p r a =
    let o = cycle_round t s p r a in
    let u : ℕ = ends t s r.lead in
    let once : Accepting t u (r.cycle ++ r.rest) = append_accepting t u r.cycle r.rest o.around (rw o.back o.on) in
    let twice : Accepting t u (r.cycle ++ (r.cycle ++ r.rest)) = append_accepting t u r.cycle (r.cycle ++ r.rest) o.around (rw o.back once) in
    let q : List ℕ = r.lead ++ (r.cycle ++ (r.cycle ++ r.rest)) in
    let long : length p ≡ length r.lead + (length r.cycle + length r.rest) = ap length r.whole ∙ simp length-append in
    let more : length q ≡ length r.lead + (length r.cycle + (length r.cycle + length r.rest)) = simp length-append in
    let some : 0 < length r.cycle = r.some in
    (q, append_accepting t s r.lead (r.cycle ++ (r.cycle ++ r.rest)) o.there twice, omega arith)

-- Where an accepting path is as long as there are states, there are accepting paths of any length.
pub ever_longer : (t : Transducer) → Within t → (s : ℕ) (p : List ℕ) → s < t.states → Accepting t s p → t.states ≤ length p → (k : ℕ)
    → (q : List ℕ) × Accepting t s q × (t.states ≤ length q) × (k ≤ length q)
ever_longer t w s p b a h zero = (p, a, h, omega arith)
ever_longer t w s p b a h (suc k) =
    let m = ever_longer t w s p b a h k in
    let n = longer t s m.0 (long_has_cycle t w s m.0 b m.1.goes m.2) m.1 in
    let u : t.states ≤ length m.0 = m.2 in
    let v : k ≤ length m.0 = m.3 in
    let l : length m.0 < length n.0 = n.2 in
    (n.0, n.1, omega arith, omega arith)
