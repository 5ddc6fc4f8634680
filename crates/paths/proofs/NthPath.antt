-- The k-th path: it accepts, k paths come before it, later ones come after it, and where paths are finitely many each accepting
-- path is one of them. Assumes nothing.
use mathlib.Core.Path.{◌≡◌, sym}
use mathlib.Core.Bool.{true, false}
use mathlib.Core.Logic.{◌⊎◌, inl, inr}
use mathlib.Core.List.{List, [], ◌∷◌}
use mathlib.Core.List.Memᴰ.{cases_cons as first-or-later}
use mathlib.Core.List.Memᴰ.{not-nil as none_in}
use mathlib.Core.List.{Memᴰ as Mem}
use Prim.Native.Nat.{ℕ, suc, ◌<◌}
use native.Mathlib.Omega.{arith}
use lib.ListN.{length, get_or}
use Rattle.transducer.specs.Format.{Transducer}
use Rattle.transducer.specs.Path.{accepts}
use Rattle.transducer.proofs.Members.{get_or_in}
use Rattle.transducer.proofs.Runs.{Within}
use Rattle.paths.specs.Count.{before, paths, endless, path_count, nth_path}
use Rattle.paths.proofs.Order.{many_before, sorted_many_before, sorted_places}
use Rattle.paths.proofs.Endless.{mem_paths, paths_sorted, not_endless_short, not_endless_listed}

pub nth_path_accepts : (t : Transducer) (k : ℕ) → k < length (paths t) → accepts t (nth_path t k) ≡ true
unfolding nth_path
nth_path_accepts t k h = mem_paths t (get_or (paths t) k []) (get_or_in (paths t) k [] h)

-- It is the path with k before it in path order.
pub nth_path_many_before : (t : Transducer) (k : ℕ) → k < length (paths t) → many_before (nth_path t k) (paths t) ≡ k
unfolding nth_path
nth_path_many_before t k h = sorted_many_before (paths t) k (paths_sorted t) h

pub nth_path_before : (t : Transducer) (j k : ℕ) → j < k → k < length (paths t) → before (nth_path t j) (nth_path t k) ≡ true
unfolding nth_path
nth_path_before t j k l h = sorted_places (paths t) j k (paths_sorted t) l h

pub place_of : (l : List (List ℕ)) (p : List ℕ) → Mem p l → (k : ℕ) × (k < length l) × (get_or l k [] ≡ p)
place_of [] p m = absurd (none_in m)
place_of (q ∷ l) p m = on (λ m'. place_of l p m') (first-or-later m)
  where
    on : (Mem p l → (k : ℕ) × (k < length l) × (get_or l k [] ≡ p)) → (p ≡ q) ⊎ Mem p l → (k : ℕ) × (k < suc (length l)) × (get_or (q ∷ l) k [] ≡ p)
    on below (inl e) = (0, omega arith, sym e)
    on below (inr m') =
        let r = below m' in
        let b : r.0 < length l = r.1 in
        (suc r.0, omega arith, r.2)

pub nth_path_onto : (t : Transducer) → Within t → endless t ≡ false → (p : List ℕ) → accepts t p ≡ true
    → (k : ℕ) × (k < length (paths t)) × (nth_path t k ≡ p)
unfolding nth_path
nth_path_onto t w e p a = place_of (paths t) p (not_endless_listed t w e p a)

pub path_count_listed : (t : Transducer) (k : ℕ) → k < path_count t → (k < length (paths t)) × (k < 99)
unfolding path_count
path_count_listed t k h = omega arith

pub nth_path_short : (t : Transducer) → Within t → endless t ≡ false → (k : ℕ) → k < path_count t → length (nth_path t k) < t.states
nth_path_short t w e k h = not_endless_short t w e (nth_path t k) (nth_path_accepts t k (path_count_listed t k h).0)
