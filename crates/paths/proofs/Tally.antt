-- Laws of `add_arcs`, `add_all` and `tally`: the tally is the capped number of paths. Assumes nothing.
use mathlib.Core.Path.{◌≡◌, refl, sym, ap, ◌∙◌}
use mathlib.Core.Bool.{Bool, true, false, cond}
use mathlib.Core.List.{List, [], ◌∷◌, ◌++◌, map}
use Prim.Native.Nat.{ℕ, zero, suc, ◌+◌, ◌≤◌, ◌<◌, min}
use native.Mathlib.Omega.{arith}
use lib.Dec.{eqb}
use lib.ListN.{length, get_or, length-append, length-map}
use borrow.Author.Tests.{eqb-true}
use Rattle.transducer.specs.declared.Arc.{Arc}
use Rattle.transducer.specs.Format.{Transducer}
use Rattle.transducer.specs.Path.{arc, no_arc, is_final}
use Rattle.transducer.specs.Each.{by_number, each_arc}
use Rattle.paths.specs.Count.{paths_from}
use Rattle.capped.specs.Capped.{add}
use Rattle.paths.specs.Tally.{own, add_arcs, add_all, tally}
use Rattle.paths.proofs.Listed.{empty_path, by_arcs}

-- The sum without a cap.

unfoldable pub sum_arcs : List Arc → (s : ℕ) → (count : ℕ → ℕ) → ℕ
sum_arcs [] s c = 0
sum_arcs (a ∷ l) s c = cond (eqb a.source s) (c a.target) 0 + sum_arcs l s c

pub add_arcs_sum : (l : List Arc) (s : ℕ) (c : ℕ → ℕ) (x : ℕ) → x ≤ 99 → add_arcs l s c x ≡ min 99 (x + sum_arcs l s c)
unfolding add_arcs sum_arcs add
add_arcs_sum [] s c x h = omega arith
add_arcs_sum (a ∷ l) s c x h = on (λ y b. add_arcs_sum l s c y b) (eqb a.source s)
  where
    on : ((y : ℕ) → y ≤ 99 → add_arcs l s c y ≡ min 99 (y + sum_arcs l s c)) → (b : Bool)
        → add_arcs l s c (cond b (min 99 (x + c a.target)) x) ≡ min 99 (x + (cond b (c a.target) 0 + sum_arcs l s c))
    on below true =
        let r : add_arcs l s c (min 99 (x + c a.target)) ≡ min 99 (min 99 (x + c a.target) + sum_arcs l s c) =
        below (min 99 (x + c a.target)) (omega arith) in
        omega arith
    on below false =
        let r : add_arcs l s c x ≡ min 99 (x + sum_arcs l s c) = below x h in
        omega arith

pub own_small : (t : Transducer) (s : ℕ) → own t s ≤ 1
unfolding own
own_small t s = on (is_final t.finals s)
  where
    on : (b : Bool) → cond b 1 0 ≤ 1
    on true = omega arith
    on false = omega arith

pub add_all_sum : (t : Transducer) (c : ℕ → ℕ) (s : ℕ) → add_all t c s ≡ min 99 (own t s + sum_arcs t.arcs s c)
unfolding add_all
add_all_sum t c s = add_arcs_sum t.arcs s c (own t s) (omega (arith, own_small t s))

pub sum_arcs_same : (l : List Arc) (s : ℕ) (c d : ℕ → ℕ) → ((u : ℕ) → c u ≡ d u) → sum_arcs l s c ≡ sum_arcs l s d
unfolding sum_arcs
sum_arcs_same [] s c d h = refl
sum_arcs_same (a ∷ l) s c d h = rw (h a.target, sum_arcs_same l s c d h)

-- A cap on each term changes nothing under the cap on the sum.
pub sum_arcs_capped : (l : List Arc) (s : ℕ) (c : ℕ → ℕ) (x : ℕ) → min 99 (x + sum_arcs l s (λ u. min 99 (c u))) ≡ min 99 (x + sum_arcs l s c)
unfolding sum_arcs
sum_arcs_capped [] s c x = refl
sum_arcs_capped (a ∷ l) s c x = on (λ y. sum_arcs_capped l s c y) (eqb a.source s)
  where
    on : ((y : ℕ) → min 99 (y + sum_arcs l s (λ u. min 99 (c u))) ≡ min 99 (y + sum_arcs l s c)) → (b : Bool)
        → min 99 (x + (cond b (min 99 (c a.target)) 0 + sum_arcs l s (λ u. min 99 (c u)))) ≡ min 99 (x + (cond b (c a.target) 0 + sum_arcs l s c))
    on below true =
        let r : min 99 (x + min 99 (c a.target) + sum_arcs l s (λ u. min 99 (c u))) ≡ min 99 (x + min 99 (c a.target) + sum_arcs l s c) =
        below (x + min 99 (c a.target)) in
        omega arith
    on below false =
        let r : min 99 (x + sum_arcs l s (λ u. min 99 (c u))) ≡ min 99 (x + sum_arcs l s c) = below x in
        omega arith

pub sum_arcs_monotone : (l : List Arc) (s : ℕ) (c d : ℕ → ℕ)
    → ((i : ℕ) → i < length l → (get_or l i no_arc).source ≡ s → c (get_or l i no_arc).target ≤ d (get_or l i no_arc).target) → sum_arcs l s c ≤ sum_arcs l s d
unfolding sum_arcs
sum_arcs_monotone [] s c d h = omega arith
sum_arcs_monotone (a ∷ l) s c d h = on (sum_arcs_monotone l s c d (λ i b. h (suc i) (omega arith))) (eqb a.source s) refl
  where
    on : sum_arcs l s c ≤ sum_arcs l s d → (b : Bool) → eqb a.source s ≡ b
        → cond b (c a.target) 0 + sum_arcs l s c ≤ cond b (d a.target) 0 + sum_arcs l s d
    on below true e = let here : c a.target ≤ d a.target = h 0 (omega arith) (eqb-true a.source s e) in omega arith
    on below false e = omega arith

-- Counts that are nowhere less where the arcs of a state lead make its count no less.
pub add_all_monotone : (t : Transducer) (c d : ℕ → ℕ) (s : ℕ)
    → ((i : ℕ) → i < length t.arcs → (arc t i).source ≡ s → c (arc t i).target ≤ d (arc t i).target) → add_all t c s ≤ add_all t d s
unfolding arc
add_all_monotone t c d s h =
    let le : sum_arcs t.arcs s c ≤ sum_arcs t.arcs s d = sum_arcs_monotone t.arcs s c d h in
    rw (add_all_sum t c s, add_all_sum t d s) (omega arith)

pub add_all_same : (t : Transducer) (c d : ℕ → ℕ) (s : ℕ)
    → ((i : ℕ) → i < length t.arcs → (arc t i).source ≡ s → c (arc t i).target ≡ d (arc t i).target) → add_all t c s ≡ add_all t d s
add_all_same t c d s h =
    let up : add_all t c s ≤ add_all t d s = add_all_monotone t c d s (λ i b e. omega (arith, h i b e)) in
    let down : add_all t d s ≤ add_all t c s = add_all_monotone t d c s (λ i b e. omega (arith, h i b e)) in
    omega arith

-- The number of paths.

pub length_by_number : {B : Type 0} (f : ℕ → Arc → List B) (c : ℕ → ℕ) (s : ℕ) → ((i : ℕ) (a : Arc) → length (f i a) ≡ c a.target)
    → (i : ℕ) (l : List Arc) → length (by_number i (λ j a. cond (eqb a.source s) (f j a) []) l) ≡ sum_arcs l s c
unfolding by_number sum_arcs
length_by_number f c s h i [] = refl
length_by_number {B} f c s h i (a ∷ l) =
    length-append (cond (eqb a.source s) (f i a) []) (by_number (suc i) (λ j b. cond (eqb b.source s) (f j b) []) l)
    ∙ on (length_by_number f c s h (suc i) l) (eqb a.source s)
  where
    on : length (by_number (suc i) (λ j b. cond (eqb b.source s) (f j b) []) l) ≡ sum_arcs l s c → (b : Bool)
        → length (cond b (f i a) []) + length (by_number (suc i) (λ j b. cond (eqb b.source s) (f j b) []) l) ≡ cond b (c a.target) 0 + sum_arcs l s c
    on below true = let here : length (f i a) ≡ c a.target = h i a in omega arith
    on below false = omega arith

pub length_by_arcs : (k : ℕ) (t : Transducer) (s : ℕ) → length (by_arcs k t s) ≡ sum_arcs t.arcs s (λ u. length (paths_from k t u))
unfolding each_arc
length_by_arcs k t s =
    length_by_number (λ i a. map (λ p. i ∷ p) (paths_from k t a.target)) (λ u. length (paths_from k t u)) s
    (λ i a. length-map (paths_from k t a.target) (λ p. i ∷ p)) 0 t.arcs

pub length_empty_path : (t : Transducer) (s : ℕ) → length (empty_path t s) ≡ own t s
unfolding own
length_empty_path t s = on (is_final t.finals s)
  where
    on : (b : Bool) → length {A = List ℕ} (cond b ([] ∷ []) []) ≡ cond b 1 0
    on true = refl
    on false = refl

pub tally_length : (k : ℕ) (t : Transducer) (s : ℕ) → tally k t s ≡ min 99 (length (paths_from k t s))
unfolding tally paths_from
tally_length zero t s =
    let e : length (empty_path t s) ≡ own t s = length_empty_path t s in
    let small : own t s ≤ 1 = own_small t s in
    omega arith
tally_length (suc k) t s =
    let len : ℕ → ℕ = λ u. length (paths_from k t u) in
    let e : length (empty_path t s) ≡ own t s = length_empty_path t s in
    let f : length (by_arcs k t s) ≡ sum_arcs t.arcs s len = length_by_arcs k t s in
    let whole : length (empty_path t s ++ by_arcs k t s) ≡ own t s + sum_arcs t.arcs s len =
    length-append (empty_path t s) (by_arcs k t s) ∙ (omega arith) in
    let terms : sum_arcs t.arcs s (tally k t) ≡ sum_arcs t.arcs s (λ u. min 99 (len u)) =
    sum_arcs_same t.arcs s (tally k t) (λ u. min 99 (len u)) (λ u. tally_length k t u) in
    add_all_sum t (tally k t) s ∙ (ap (λ (n : ℕ). min 99 (own t s + n)) terms
    ∙ (sum_arcs_capped t.arcs s len (own t s) ∙ ap (λ (n : ℕ). min 99 n) (sym whole)))
