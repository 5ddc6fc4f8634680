-- What stands in `paths_from`: the accepting paths that are short enough, in path order, none twice. Assumes nothing.
use mathlib.Core.Path.{◌≡◌, refl, sym, ap}
use mathlib.Core.Bool.{Bool, true, false, cond}
use mathlib.Core.Logic.{◌⊎◌, inl, inr}
use mathlib.Core.List.{List, [], ◌∷◌, map}
use mathlib.Core.List.Memᴰ.{head as first}
use mathlib.Core.List.Memᴰ.{not-nil as none_in}
use mathlib.Core.List.{Memᴰ as Mem}
use mathlib.Core.List.Memᴰ.{append_cases as in_either}
use mathlib.Core.List.Memᴰ.{append_left as in_front}
use mathlib.Core.List.Memᴰ.{append_right as in_back}
use mathlib.Core.List.Memᴰ.{eq_of_singleton as only}
use mathlib.Core.List.Memᴰ.{map as in_map}
use mathlib.Core.List.Memᴰ.{of_map}
use Prim.Native.Nat.{ℕ, zero, suc, ◌+◌, ◌≤◌}
use native.Mathlib.Nat.{not-suc-le-zero, le_of_suc-le-suc}
use native.Mathlib.Omega.{arith}
use lib.Dec.{eqb}
use lib.ListN.{length, get_or}
use Rattle.transducer.specs.declared.Arc.{Arc}
use Rattle.transducer.specs.Format.{Transducer}
use Rattle.transducer.specs.Path.{arc, no_arc, is_final}
use Rattle.transducer.specs.Each.{by_number, each_arc}
use Rattle.transducer.proofs.Members.{in_cond, cond_has, Distinct}
use Rattle.transducer.proofs.Each.{InRun, in_by_number, FromArc, in_each_arc, each_arc_has}
use Rattle.transducer.proofs.Runs.{Accepting, AcceptingBy, accepting_nil, nil_accepting, accepting_cons, cons_accepting}
use Rattle.paths.specs.Count.{before, paths_from}
use Rattle.paths.proofs.Order.{first_before, nil_before, Sorted, sorted_nil, sorted_cons, sorted_append, sorted_map_cons, sorted_distinct}

-- The empty path where the state is final, and the paths by each of its arcs: the two parts of `paths_from`.

abbrev pub empty_path : Transducer → (s : ℕ) → List (List ℕ)
empty_path t s = cond (is_final t.finals s) ([] ∷ []) []

abbrev pub by_arcs : (most : ℕ) → Transducer → (s : ℕ) → List (List ℕ)
by_arcs most t s = each_arc t s (λ i a. map (λ p. i ∷ p) (paths_from most t a.target))

pub in_empty_path : (t : Transducer) (s : ℕ) (p : List ℕ) → Mem p (empty_path t s) → (p ≡ []) × Accepting t s []
in_empty_path t s p m =
    let both = in_cond p (is_final t.finals s) ([] ∷ []) m in
    (only both.1, nil_accepting t s both.0)

pub empty_path_has : (t : Transducer) (s : ℕ) → Accepting t s [] → Mem [] (empty_path t s)
empty_path_has t s a = cond_has [] (is_final t.finals s) ([] ∷ []) (accepting_nil t s a) (first refl)

-- Members.

pub in_paths_from : (k : ℕ) (t : Transducer) (s : ℕ) (p : List ℕ) → Mem p (paths_from k t s) → Accepting t s p × (length p ≤ k)
unfolding paths_from
in_paths_from zero t s p m =
    let e = in_empty_path t s p m in
    (rw e.0 e.1, rw e.0 (omega arith))
in_paths_from (suc k) t s p m = on (λ u q. in_paths_from k t u q) (in_either (empty_path t s) m)
  where
    on : ((u : ℕ) (q : List ℕ) → Mem q (paths_from k t u) → Accepting t u q × (length q ≤ k)) → Mem p (empty_path t s) ⊎ Mem p (by_arcs k t s)
        → Accepting t s p × (length p ≤ suc k)
    on below (inl m') =
        let e = in_empty_path t s p m' in
        (rw e.0 e.1, rw e.0 (omega arith))
    on below (inr m') =
        let f : ℕ → Arc → List (List ℕ) = λ i a. map (λ q. i ∷ q) (paths_from k t a.target) in
        let r : FromArc t s f p = in_each_arc t s f p m' in
        let i = r.number in
        let u = (arc t i).target in
        let o : (q : List ℕ) × Mem q (paths_from k t u) × (i ∷ q ≡ p) = of_map (λ q. i ∷ q) (paths_from k t u) r.given in
        let b = below u o.0 o.1 in
        let short : length o.0 ≤ k = b.1 in
        let all : Accepting t s (i ∷ o.0) = cons_accepting t s i o.0 (record { below = r.below; leaves = r.leaves; rest = b.0 }) in
        let long : suc (length o.0) ≡ length p = ap length o.2 in
        (rw o.2 at all, omega arith)

pub paths_from_has : (k : ℕ) (t : Transducer) (s : ℕ) (p : List ℕ) → Accepting t s p → length p ≤ k → Mem p (paths_from k t s)
unfolding paths_from
paths_from_has zero t s [] a l = empty_path_has t s a
paths_from_has zero t s (i ∷ p) a l = absurd (not-suc-le-zero l)
paths_from_has (suc k) t s [] a l = in_front (by_arcs k t s) (empty_path_has t s a)
paths_from_has (suc k) t s (i ∷ p) a l =
    let b : AcceptingBy t s i p = accepting_cons t s i p a in
    let m : Mem p (paths_from k t (arc t i).target) = paths_from_has k t (arc t i).target p b.rest (le_of_suc-le-suc l) in
    in_back (empty_path t s)
    (each_arc_has t s (λ j b. map (λ q. j ∷ q) (paths_from k t b.target)) (i ∷ p) i b.below b.leaves (in_map (λ q. i ∷ q) m))

-- Order.

-- What each arc gives is sorted and begins with the arc's number: then all of it is sorted.
pub by_number_sorted : (f : ℕ → Arc → List (List ℕ)) → ((i : ℕ) (a : Arc) (p : List ℕ) → Mem p (f i a) → (q : List ℕ) × (p ≡ i ∷ q))
    → ((i : ℕ) (a : Arc) → Sorted (f i a)) → (i : ℕ) (l : List Arc) → Sorted (by_number i f l)
unfolding by_number
by_number_sorted f begins each i [] = sorted_nil
by_number_sorted f begins each i (a ∷ l) =
    sorted_append (f i a) (by_number (suc i) f l) (each i a) (by_number_sorted f begins each (suc i) l) apart
  where
    apart : (p q : List ℕ) → Mem p (f i a) → Mem q (by_number (suc i) f l) → before p q ≡ true
    apart p q mp mq =
        let r : InRun (suc i) f l q = in_by_number (suc i) f l q mq in
        let x = begins i a p mp in
        let y = begins (suc i + r.place) (get_or l r.place no_arc) q r.given in
        rw (x.1, y.1) (first_before i (suc i + r.place) x.0 y.0 (omega arith))

pub by_arcs_sorted : (k : ℕ) (t : Transducer) (s : ℕ) → ((u : ℕ) → Sorted (paths_from k t u)) → Sorted (by_arcs k t s)
unfolding each_arc
by_arcs_sorted k t s each = by_number_sorted (λ i a. cond (eqb a.source s) (f i a) []) begins sorted 0 t.arcs
  where
    f : ℕ → Arc → List (List ℕ)
    f i a = map (λ q. i ∷ q) (paths_from k t a.target)

    begins : (i : ℕ) (a : Arc) (p : List ℕ) → Mem p (cond (eqb a.source s) (f i a) []) → (q : List ℕ) × (p ≡ i ∷ q)
    begins i a p m =
        let o = of_map (λ q. i ∷ q) (paths_from k t a.target) (in_cond p (eqb a.source s) (f i a) m).1 in
        (o.0, sym o.2)

    sorted_if : (b : Bool) (l : List (List ℕ)) → Sorted l → Sorted (cond b l [])
    sorted_if true l h = h
    sorted_if false l h = sorted_nil

    sorted : (i : ℕ) (a : Arc) → Sorted (cond (eqb a.source s) (f i a) [])
    sorted i a = sorted_if (eqb a.source s) (f i a) (sorted_map_cons i (paths_from k t a.target) (each a.target))

empty_path_sorted : (t : Transducer) (s : ℕ) → Sorted (empty_path t s)
empty_path_sorted t s = on (is_final t.finals s)
  where
    on : (b : Bool) → Sorted (cond b ([] ∷ []) [])
    on true = sorted_cons [] [] (λ q m. absurd (none_in m)) sorted_nil
    on false = sorted_nil

pub paths_from_sorted : (k : ℕ) (t : Transducer) (s : ℕ) → Sorted (paths_from k t s)
unfolding paths_from
paths_from_sorted zero t s = empty_path_sorted t s
paths_from_sorted (suc k) t s =
    sorted_append (empty_path t s) (by_arcs k t s) (empty_path_sorted t s) (by_arcs_sorted k t s (λ u. paths_from_sorted k t u)) apart
  where
    apart : (p q : List ℕ) → Mem p (empty_path t s) → Mem q (by_arcs k t s) → before p q ≡ true
    apart p q mp mq =
        let f : ℕ → Arc → List (List ℕ) = λ i a. map (λ r. i ∷ r) (paths_from k t a.target) in
        let r : FromArc t s f q = in_each_arc t s f q mq in
        let i = r.number in
        let o : (x : List ℕ) × Mem x (paths_from k t (arc t i).target) × (i ∷ x ≡ q) = of_map (λ x. i ∷ x) (paths_from k t (arc t i).target) r.given in
        let e : p ≡ [] = (in_empty_path t s p mp).0 in
        rw (e, ← o.2) (nil_before i o.0)

pub paths_from_distinct : (k : ℕ) (t : Transducer) (s : ℕ) → Distinct (λ p. p) (paths_from k t s)
paths_from_distinct k t s = sorted_distinct (paths_from k t s) (paths_from_sorted k t s)
