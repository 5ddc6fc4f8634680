-- `endless`: where it holds there are accepting paths of any length, which no list holds; where it does not, all of them stand
-- in `paths`. The same for the paths from any state. Assumes nothing.
use mathlib.Core.Path.{◌≡◌, refl, sym, ap, ◌∙◌}
use mathlib.Core.Bool.{Bool, true, false}
use mathlib.Core.Logic.{◌⊎◌, inl, inr, ◌↔◌}
use mathlib.Core.List.{List, [], ◌∷◌, ◌++◌}
use mathlib.Core.List.Memᴰ.{cases_cons as first-or-later}
use mathlib.Core.List.Memᴰ.{head as first}
use mathlib.Core.List.Memᴰ.{not-nil as none_in}
use mathlib.Core.List.{Memᴰ as Mem}
use Prim.Native.Nat.{ℕ, suc, ◌≤◌, ◌<◌, max, min}
use native.Mathlib.Omega.{arith}
use lib.Dec.{ltb}
use lib.ListN.{length}
use borrow.Author.Tests.{ltb-true, ltb-false}
use Rattle.transducer.specs.Format.{Transducer}
use Rattle.transducer.specs.Path.{arc, accepts}
use Rattle.transducer.proofs.Members.{Distinct}
use Rattle.transducer.proofs.Runs.{Accepting, accepts_accepting, accepting_accepts, cons_accepting, Within}
use Rattle.transducer.proofs.Cycles.{ever_longer}
use Rattle.paths.specs.Count.{paths_from, paths, goes_on, endless, most_counted, path_count}
use Rattle.paths.proofs.Order.{Sorted, sorted_same}
use Rattle.paths.proofs.Listed.{empty_path, by_arcs, in_paths_from, paths_from_has, paths_from_sorted, paths_from_distinct}
use Rattle.paths.proofs.GoesOn.{goes_on_path, path_goes_on}

-- All accepting paths from a state, where they are not infinitely many.
abbrev pub all_from : Transducer → (s : ℕ) → List (List ℕ)
all_from t s = paths_from t.states t s

-- A state from which no accepting path has as many arcs as there are states.
pub record Finite (t : Transducer) (s : ℕ) : Type 0 where
  pub below : s < t.states
  pub stops : goes_on t.states t s ≡ false

pub finite_short : (t : Transducer) → Within t → (s : ℕ) → Finite t s → (p : List ℕ) → Accepting t s p → length p < t.states
finite_short t w s f p a = on (ltb (length p) t.states) refl
  where
    on : (b : Bool) → ltb (length p) t.states ≡ b → length p < t.states
    on true e = ltb-true (length p) t.states e
    on false e =
        let yet : goes_on t.states t s ≡ true = path_goes_on t.states t w s p f.below a (ltb-false (length p) t.states e) in
        let clash : true ≡ false = sym yet ∙ f.stops in
        let z : ◌≡◌ {A = ℕ} 0 1 = cc in
        absurd (omega arith)

pub short_finite : (t : Transducer) (s : ℕ) → s < t.states → ((p : List ℕ) → Accepting t s p → length p < t.states) → Finite t s
short_finite t s b h = record { below = b; stops = on (goes_on t.states t s) refl }
  where
    on : (c : Bool) → goes_on t.states t s ≡ c → goes_on t.states t s ≡ false
    on false e = e
    on true e =
        let p = goes_on_path t.states t s e in
        let long : t.states ≤ length p.0 = p.2 in
        let short : length p.0 < t.states = h p.0 p.1 in
        absurd (omega arith)

-- Where paths from a state stop, so do those from wherever its arcs lead.
pub finite_target : (t : Transducer) → Within t → (s : ℕ) → Finite t s → (i : ℕ) → i < length t.arcs → (arc t i).source ≡ s → Finite t (arc t i).target
finite_target t w s f i b e =
    short_finite t (arc t i).target (w.arrives i b)
    (λ p a.
    let l : suc (length p) < t.states = finite_short t w s f (i ∷ p) (cons_accepting t s i p (record { below = b; leaves = e; rest = a })) in
    omega arith)

-- Fuel that is enough gives all paths.
pub finite_same : (t : Transducer) → Within t → (s : ℕ) → Finite t s → (k : ℕ) → t.states ≤ suc k → paths_from k t s ≡ all_from t s
finite_same t w s f k h =
    sorted_same (paths_from k t s) (all_from t s) (paths_from_sorted k t s) (paths_from_sorted t.states t s)
    (λ p m. let a = (in_paths_from k t s p m).0 in let l : length p < t.states = finite_short t w s f p a in paths_from_has t.states t s p a (omega arith))
    (λ p m. let a = (in_paths_from t.states t s p m).0 in let l : length p < t.states = finite_short t w s f p a in paths_from_has k t s p a (omega arith))

-- One step, without fuel.
pub finite_step : (t : Transducer) → Within t → (s : ℕ) → Finite t s → all_from t s ≡ empty_path t s ++ by_arcs t.states t s
unfolding paths_from
finite_step t w s f = sym (finite_same t w s f (suc t.states) (omega arith))

-- From the start.

pub endless_false_finite : (t : Transducer) → Within t → endless t ≡ false → Finite t t.start
unfolding endless
endless_false_finite t w h = record { below = w.starts; stops = h }

pub mem_paths : (t : Transducer) (p : List ℕ) → Mem p (paths t) → accepts t p ≡ true
unfolding paths
mem_paths t p m = accepting_accepts t p (in_paths_from t.states t t.start p m).0

pub paths_sorted : (t : Transducer) → Sorted (paths t)
unfolding paths
paths_sorted t = paths_from_sorted t.states t t.start

pub paths_distinct : (t : Transducer) → Distinct (λ p. p) (paths t)
unfolding paths
paths_distinct t = paths_from_distinct t.states t t.start

pub endless_longer : (t : Transducer) → Within t → endless t ≡ true → (k : ℕ) → (p : List ℕ) × (accepts t p ≡ true) × (k ≤ length p)
unfolding endless
endless_longer t w h k =
    let p = goes_on_path t.states t t.start h in
    let q = ever_longer t w t.start p.0 w.starts p.1 p.2 k in
    (q.0, accepting_accepts t q.0 q.1, q.3)

pub not_endless_short : (t : Transducer) → Within t → endless t ≡ false → (p : List ℕ) → accepts t p ≡ true → length p < t.states
not_endless_short t w h p a = finite_short t w t.start (endless_false_finite t w h) p (accepts_accepting t p a)

pub not_endless_listed : (t : Transducer) → Within t → endless t ≡ false → (p : List ℕ) → accepts t p ≡ true → Mem p (paths t)
unfolding paths
not_endless_listed t w h p a =
    let l : length p < t.states = not_endless_short t w h p a in
    paths_from_has t.states t t.start p (accepts_accepting t p a) (omega arith)

-- No finite list holds all accepting paths.

unfoldable pub longest : List (List ℕ) → ℕ
longest [] = 0
longest (p ∷ l) = max (length p) (longest l)

pub in_longest : (l : List (List ℕ)) (p : List ℕ) → Mem p l → length p ≤ longest l
unfolding longest
in_longest [] p m = absurd (none_in m)
in_longest (q ∷ l) p m = on (λ m'. in_longest l p m') (first-or-later m)
  where
    on : (Mem p l → length p ≤ longest l) → (p ≡ q) ⊎ Mem p l → length p ≤ max (length q) (longest l)
    on below (inl e) = let same : length p ≡ length q = ap length e in omega arith
    on below (inr m') = let l' : length p ≤ longest l = below m' in omega arith

pub endless_escapes : (t : Transducer) → Within t → endless t ≡ true → (l : List (List ℕ)) → (p : List ℕ) × (accepts t p ≡ true) × (Mem p l → ⊥)
endless_escapes t w h l =
    let p = endless_longer t w h (suc (longest l)) in
    let long : suc (longest l) ≤ length p.0 = p.2 in
    (p.0, p.1, λ m. let short : length p.0 ≤ longest l = in_longest l p.0 m in omega arith)

pub endless_iff : (t : Transducer) → Within t
    → (endless t ≡ true) ↔ ((l : List (List ℕ)) → (p : List ℕ) × (accepts t p ≡ true) × (Mem p l → ⊥))
endless_iff t w = (λ h. endless_escapes t w h, λ out. on (endless t) refl (out (paths t)))
  where
    on : (b : Bool) → endless t ≡ b → (p : List ℕ) × (accepts t p ≡ true) × (Mem p (paths t) → ⊥) → endless t ≡ true
    on true e out = e
    on false e (p, a, no_member) = absurd (no_member (not_endless_listed t w e p a))

-- The count is 0 exactly if nothing accepts.
pub count_some : (t : Transducer) → (path_count t ≡ 0 → ⊥) → (p : List ℕ) × (accepts t p ≡ true)
unfolding path_count
count_some t n = on (paths t) refl
  where
    on : (l : List (List ℕ)) → paths t ≡ l → (p : List ℕ) × (accepts t p ≡ true)
    on [] e = absurd (n (rw e))
    on (p ∷ l) e = (p, mem_paths t p (rw e (first refl)))

pub count_none : (t : Transducer) → Within t → endless t ≡ false → path_count t ≡ 0 → (p : List ℕ) → accepts t p ≡ true → ⊥
unfolding path_count
count_none t within finite n p a = on (paths t) (not_endless_listed t within finite p a) n
  where
    on : (l : List (List ℕ)) → Mem p l → min most_counted (length l) ≡ 0 → ⊥
    on [] m e = none_in m
    on (q ∷ l) m e = omega (arith, e)
