-- The k-th path from a state: the empty one where the state is final and k is 0; else, the empty one passed over, it goes by the
-- first arc whose target's count exceeds the remainder. Assumes nothing.
use mathlib.Core.Path.{◌≡◌, refl, ap, ◌∙◌}
use mathlib.Core.Bool.{Bool, true, false, cond}
use mathlib.Core.List.{List, [], ◌∷◌, ◌++◌, map}
use Prim.Native.Nat.{ℕ, zero, suc, ◌+◌, ◌-◌, ◌≤◌, ◌<◌}
use native.Mathlib.Nat.{not-suc-le-zero, le_of_suc-le-suc}
use native.Mathlib.Omega.{arith}
use lib.Dec.{eqb}
use lib.ListN.{length, get_or, drop, length-append, length-map, drop_of_length-le, get_or-append}
use lib.Seq.{drop-cons, get_or-append-add}
use borrow.Author.Tests.{eq-eqb, ne_eqb}
use Rattle.transducer.specs.Format.{Transducer}
use Rattle.transducer.specs.Path.{arc, no_arc, is_final}
use Rattle.transducer.specs.Each.{by_number, each_arc}
use Rattle.paths.specs.Count.{paths_from}
use Rattle.paths.specs.Tally.{own}
use Rattle.paths.proofs.Listed.{empty_path, by_arcs}
use Rattle.paths.proofs.Tally.{length_empty_path}

-- Places in two lists and in a list of longer paths.

pub get_d_past : {A : Type 0} (l m : List A) (r : ℕ) (d : A) → length l ≤ r → get_or (l ++ m) r d ≡ get_or m (r - length l) d
get_d_past l m r d h =
    let e : r ≡ length l + (r - length l) = omega arith in
    ap (λ (n : ℕ). get_or (l ++ m) n d) e ∙ get_or-append-add l m (r - length l) d

pub get_or_map_cons : (i : ℕ) (l : List (List ℕ)) (r : ℕ) → r < length l → get_or (map (λ p. i ∷ p) l) r [] ≡ i ∷ get_or l r []
get_or_map_cons i [] r h = absurd (not-suc-le-zero h)
get_or_map_cons i (p ∷ l) zero h = refl
get_or_map_cons i (p ∷ l) (suc r) h = get_or_map_cons i l r (le_of_suc-le-suc h)

-- The empty path, and the others behind it.

pub nth_empty : (k : ℕ) (t : Transducer) (s r : ℕ) → r < own t s → get_or (paths_from k t s) r [] ≡ []
unfolding own paths_from
nth_empty zero t s r h = on (is_final t.finals s) h
  where
    on : (b : Bool) → r < cond b 1 0 → get_or {A = List ℕ} (cond b ([] ∷ []) []) r [] ≡ []
    on true h' = let e : r ≡ 0 = omega arith in rw e
    on false h' = absurd (omega arith)
nth_empty (suc k) t s r h = on (is_final t.finals s) h
  where
    on : (b : Bool) → r < cond b 1 0 → get_or {A = List ℕ} (cond b ([] ∷ []) [] ++ by_arcs k t s) r [] ≡ []
    on true h' = let e : r ≡ 0 = omega arith in rw e
    on false h' = absurd (omega arith)

pub nth_others : (k : ℕ) (t : Transducer) (s r : ℕ) → own t s ≤ r → get_or (empty_path t s ++ by_arcs k t s) r [] ≡ get_or (by_arcs k t s) (r - own t s) []
nth_others k t s r h =
    let e : length (empty_path t s) ≡ own t s = length_empty_path t s in
    get_d_past (empty_path t s) (by_arcs k t s) r [] (omega arith) ∙ ap (λ (n : ℕ). get_or (by_arcs k t s) (r - n) []) e

-- The paths by the arcs from a number on.
unfoldable pub by_arcs_from : (most : ℕ) → Transducer → (s i : ℕ) → List (List ℕ)
by_arcs_from k t s i = by_number i (λ j a. cond (eqb a.source s) (map (λ p. j ∷ p) (paths_from k t a.target)) []) (drop i t.arcs)

pub by_arcs_first : (k : ℕ) (t : Transducer) (s : ℕ) → by_arcs k t s ≡ by_arcs_from k t s 0
unfolding by_arcs_from each_arc
by_arcs_first k t s = refl

pub by_arcs_end : (k : ℕ) (t : Transducer) (s i : ℕ) → length t.arcs ≤ i → by_arcs_from k t s i ≡ []
unfolding by_arcs_from by_number
by_arcs_end k t s i h = rw (drop_of_length-le t.arcs h)

pub by_arcs_step : (k : ℕ) (t : Transducer) (s i : ℕ) → i < length t.arcs
    → by_arcs_from k t s i ≡ cond (eqb (arc t i).source s) (map (λ p. i ∷ p) (paths_from k t (arc t i).target)) [] ++ by_arcs_from k t s (suc i)
unfolding by_arcs_from by_number arc
by_arcs_step k t s i h = rw (drop-cons t.arcs i no_arc h)

pub by_arcs_other : (k : ℕ) (t : Transducer) (s i : ℕ) → i < length t.arcs → ((arc t i).source ≡ s → ⊥) → by_arcs_from k t s i ≡ by_arcs_from k t s (suc i)
by_arcs_other k t s i h e = rw (by_arcs_step k t s i h, ne_eqb (arc t i).source s e)

pub by_arcs_arc : (k : ℕ) (t : Transducer) (s i : ℕ) → i < length t.arcs → (arc t i).source ≡ s
    → by_arcs_from k t s i ≡ map (λ p. i ∷ p) (paths_from k t (arc t i).target) ++ by_arcs_from k t s (suc i)
by_arcs_arc k t s i h e = rw (by_arcs_step k t s i h, eq-eqb (arc t i).source s e)

-- The path by an arc whose target's count exceeds the remainder; and past one whose target's count does not.

pub nth_by : (k : ℕ) (t : Transducer) (s i r : ℕ) → i < length t.arcs → (arc t i).source ≡ s → r < length (paths_from k t (arc t i).target)
    → get_or (by_arcs_from k t s i) r [] ≡ i ∷ get_or (paths_from k t (arc t i).target) r []
nth_by k t s i r h e l =
    let ps : List (List ℕ) = paths_from k t (arc t i).target in
    let n : length (map (λ p. i ∷ p) ps) ≡ length ps = length-map ps (λ p. i ∷ p) in
    ap (λ (x : List (List ℕ)). get_or x r []) (by_arcs_arc k t s i h e)
    ∙ (get_or-append (map (λ p. i ∷ p) ps) (by_arcs_from k t s (suc i)) [] r (omega arith) ∙ get_or_map_cons i ps r l)

pub nth_past : (k : ℕ) (t : Transducer) (s i r : ℕ) → i < length t.arcs → (arc t i).source ≡ s → length (paths_from k t (arc t i).target) ≤ r
    → get_or (by_arcs_from k t s i) r [] ≡ get_or (by_arcs_from k t s (suc i)) (r - length (paths_from k t (arc t i).target)) []
nth_past k t s i r h e l =
    let ps : List (List ℕ) = paths_from k t (arc t i).target in
    let n : length (map (λ p. i ∷ p) ps) ≡ length ps = length-map ps (λ p. i ∷ p) in
    ap (λ (x : List (List ℕ)). get_or x r []) (by_arcs_arc k t s i h e)
    ∙ (get_d_past (map (λ p. i ∷ p) ps) (by_arcs_from k t s (suc i)) r [] (omega arith)
    ∙ ap (λ (m : ℕ). get_or (by_arcs_from k t s (suc i)) (r - m) []) n)

pub length_by_arcs_arc : (k : ℕ) (t : Transducer) (s i : ℕ) → i < length t.arcs → (arc t i).source ≡ s
    → length (by_arcs_from k t s i) ≡ length (paths_from k t (arc t i).target) + length (by_arcs_from k t s (suc i))
length_by_arcs_arc k t s i h e =
    let ps : List (List ℕ) = paths_from k t (arc t i).target in
    let n : length (map (λ p. i ∷ p) ps) ≡ length ps = length-map ps (λ p. i ∷ p) in
    ap length (by_arcs_arc k t s i h e) ∙ (length-append (map (λ p. i ∷ p) ps) (by_arcs_from k t s (suc i)) ∙ (omega arith))
