-- Walking along the k-th path by the counts: what is walked, then the path of a number from the state reached, is the path sought.
-- Each law is one step of the walk. Assumes nothing.
use mathlib.Core.Path.{◌≡◌, refl, sym, ap, ◌∙◌}
use mathlib.Core.Bool.{Bool, true, false}
use mathlib.Core.List.{List, [], ◌∷◌, ◌++◌, append_assoc, append-nil}
use Prim.Native.Nat.{ℕ, zero, suc, ◌+◌, ◌-◌, ◌≤◌, ◌<◌, min}
use native.Mathlib.Nat.{not-suc-le-zero}
use native.Mathlib.Omega.{arith}
use lib.Dec.{ltb}
use lib.ListN.{length, get_or, length-append}
use borrow.Author.Tests.{ltb-true, ltb-false}
use Rattle.transducer.specs.Format.{Transducer}
use Rattle.transducer.specs.Path.{arc}
use Rattle.transducer.proofs.Runs.{Within}
use Rattle.paths.specs.Count.{paths, endless, path_count, nth_path}
use Rattle.paths.specs.Tally.{own}
use Rattle.paths.proofs.Listed.{empty_path, by_arcs}
use Rattle.paths.proofs.Endless.{all_from, Finite, finite_step, finite_target, endless_false_finite}
use Rattle.paths.proofs.Tally.{length_empty_path}
use Rattle.paths.proofs.Sweep.{Counts}
use Rattle.paths.proofs.NthPath.{path_count_listed}
use Rattle.paths.proofs.Nth.{nth_empty, nth_others, by_arcs_from, by_arcs_first, by_arcs_end, by_arcs_other, nth_by, nth_past, length_by_arcs_arc}

-- At a state, the rest is the path of number r from there.
pub record Walking (t : Transducer) (path walked : List ℕ) (s r : ℕ) : Type 0 where
  pub finite : Finite t s
  pub listed : r < length (all_from t s)
  pub small : r < 99
  pub whole : path ≡ walked ++ get_or (all_from t s) r []

-- At a state, the rest is the path of number r by its arcs from number i on.
pub record Choosing (t : Transducer) (path walked : List ℕ) (s r i : ℕ) : Type 0 where
  pub finite : Finite t s
  pub listed : r < length (by_arcs_from t.states t s i)
  pub small : r < 99
  pub whole : path ≡ walked ++ get_or (by_arcs_from t.states t s i) r []

pub walking_first : (t : Transducer) → Within t → endless t ≡ false → (k : ℕ) → k < path_count t → Walking t (nth_path t k) [] t.start k
unfolding nth_path paths
walking_first t w e k h =
    let two = path_count_listed t k h in
    record { finite = endless_false_finite t w e; listed = two.0; small = two.1; whole = refl }

pub walking_length : (t : Transducer) (path walked : List ℕ) (s r : ℕ) → Walking t path walked s r → length walked ≤ length path
walking_length t path walked s r k =
    let e : length path ≡ length walked + length (get_or (all_from t s) r []) = ap length k.whole ∙ length-append walked (get_or (all_from t s) r []) in
    omega arith

pub walking_done : (t : Transducer) (path walked : List ℕ) (s r : ℕ) → Walking t path walked s r → r < own t s → path ≡ walked
walking_done t path walked s r k h =
    k.whole ∙ (ap (λ (p : List ℕ). walked ++ p) (nth_empty t.states t s r h) ∙ append-nil walked)

pub walking_on : (t : Transducer) → Within t → (path walked : List ℕ) (s r : ℕ) → Walking t path walked s r → own t s ≤ r
    → Choosing t path walked s (r - own t s) 0
walking_on t w path walked s r k h =
    let n = t.states in
    let step : all_from t s ≡ empty_path t s ++ by_arcs n t s = finite_step t w s k.finite in
    let first : by_arcs n t s ≡ by_arcs_from n t s 0 = by_arcs_first n t s in
    let one : length (empty_path t s) ≡ own t s = length_empty_path t s in
    let long : length (all_from t s) ≡ length (empty_path t s) + length (by_arcs n t s) = ap length step ∙ length-append (empty_path t s) (by_arcs n t s) in
    let same : length (by_arcs n t s) ≡ length (by_arcs_from n t s 0) = ap length first in
    let there : r < length (all_from t s) = k.listed in
    let below : r < 99 = k.small in
    let nth : get_or (all_from t s) r [] ≡ get_or (by_arcs_from n t s 0) (r - own t s) [] =
    ap (λ (l : List (List ℕ)). get_or l r []) step ∙ (nth_others n t s r h ∙ ap (λ (l : List (List ℕ)). get_or l (r - own t s) []) first) in
    record { finite = k.finite; listed = omega arith; small = omega arith; whole = k.whole ∙ ap (λ (p : List ℕ). walked ++ p) nth }

pub choosing_below : (t : Transducer) (path walked : List ℕ) (s r i : ℕ) → Choosing t path walked s r i → i < length t.arcs
choosing_below t path walked s r i k = on (ltb i (length t.arcs)) refl
  where
    on : (b : Bool) → ltb i (length t.arcs) ≡ b → i < length t.arcs
    on true e = ltb-true i (length t.arcs) e
    on false e =
        let none : by_arcs_from t.states t s i ≡ [] = by_arcs_end t.states t s i (ltb-false i (length t.arcs) e) in
        absurd (not-suc-le-zero (rw none at k.listed))

pub choosing_other : (t : Transducer) (path walked : List ℕ) (s r i : ℕ) → Choosing t path walked s r i → ((arc t i).source ≡ s → ⊥)
    → Choosing t path walked s r (suc i)
choosing_other t path walked s r i k h =
    let e : by_arcs_from t.states t s i ≡ by_arcs_from t.states t s (suc i) =
    by_arcs_other t.states t s i (choosing_below t path walked s r i k) h in
    record { finite = k.finite; listed = rw e at k.listed; small = k.small; whole = rw e at k.whole }

-- A run of arcs of other states.
pub choosing_skip : (t : Transducer) (path walked : List ℕ) (s r i n : ℕ) → Choosing t path walked s r i
    → ((j : ℕ) → i ≤ j → j < i + n → (arc t j).source ≡ s → ⊥) → Choosing t path walked s r (i + n)
choosing_skip t path walked s r i zero k h = let e : i + 0 ≡ i = omega arith in rw e k
choosing_skip t path walked s r i (suc n) k h =
    let e : i + suc n ≡ suc (i + n) = omega arith in
    rw e (choosing_other t path walked s r (i + n) (choosing_skip t path walked s r i n k (λ j a b. h j a (omega arith)))
    (h (i + n) (omega arith) (omega arith)))

counted : (t : Transducer) → Within t → (c : ℕ → ℕ) → Counts t c → (s i : ℕ) → Finite t s → i < length t.arcs → (arc t i).source ≡ s
    → c (arc t i).target ≡ min 99 (length (all_from t (arc t i).target))
unfolding Counts
counted t w c counts s i f b e = counts (arc t i).target (finite_target t w s f i b e)

pub choosing_past : (t : Transducer) → Within t → (c : ℕ → ℕ) → Counts t c → (path walked : List ℕ) (s r i : ℕ) → Choosing t path walked s r i
    → (arc t i).source ≡ s → c (arc t i).target ≤ r → Choosing t path walked s (r - c (arc t i).target) (suc i)
choosing_past t w c counts path walked s r i k e h =
    let n = t.states in
    let u = (arc t i).target in
    let b : i < length t.arcs = choosing_below t path walked s r i k in
    let cap : c u ≡ min 99 (length (all_from t u)) = counted t w c counts s i k.finite b e in
    let small : r < 99 = k.small in
    let exact : length (all_from t u) ≡ c u = omega arith in
    let long : length (by_arcs_from n t s i) ≡ length (all_from t u) + length (by_arcs_from n t s (suc i)) = length_by_arcs_arc n t s i b e in
    let there : r < length (by_arcs_from n t s i) = k.listed in
    let nth : get_or (by_arcs_from n t s i) r [] ≡ get_or (by_arcs_from n t s (suc i)) (r - length (all_from t u)) [] = nth_past n t s i r b e (omega arith) in
    let nth' : get_or (by_arcs_from n t s i) r [] ≡ get_or (by_arcs_from n t s (suc i)) (r - c u) [] =
    nth ∙ ap (λ (m : ℕ). get_or (by_arcs_from n t s (suc i)) (r - m) []) exact in
    record { finite = k.finite; listed = omega arith; small = omega arith; whole = k.whole ∙ ap (λ (p : List ℕ). walked ++ p) nth' }

pub choosing_by : (t : Transducer) → Within t → (c : ℕ → ℕ) → Counts t c → (path walked : List ℕ) (s r i : ℕ) → Choosing t path walked s r i
    → (arc t i).source ≡ s → r < c (arc t i).target → Walking t path (walked ++ (i ∷ [])) (arc t i).target r
choosing_by t w c counts path walked s r i k e h =
    let n = t.states in
    let u = (arc t i).target in
    let b : i < length t.arcs = choosing_below t path walked s r i k in
    let cap : c u ≡ min 99 (length (all_from t u)) = counted t w c counts s i k.finite b e in
    let nth : get_or (by_arcs_from n t s i) r [] ≡ i ∷ get_or (all_from t u) r [] = nth_by n t s i r b e (omega arith) in
    let joined : walked ++ (i ∷ get_or (all_from t u) r []) ≡ (walked ++ (i ∷ [])) ++ get_or (all_from t u) r [] =
    sym (append_assoc walked (i ∷ []) (get_or (all_from t u) r [])) in
    record {
      finite = finite_target t w s k.finite i b e;
      listed = omega arith;
      small = k.small;
      whole = k.whole ∙ (ap (λ (p : List ℕ). walked ++ p) nth ∙ joined);
    }
