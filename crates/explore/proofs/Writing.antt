-- Arcs written one behind the other, at most 3,072 of them: what stands after one more. Assumes nothing.
use mathlib.Core.Path.{◌≡◌, refl, sym, ap, ◌∙◌}
use mathlib.Core.List.{List, [], ◌∷◌, ◌++◌, append-nil}
use Prim.Native.Nat.{ℕ, suc, ◌+◌, ◌*◌, ◌≤◌, ◌<◌, min}
use native.Mathlib.Nat.{add-suc}
use native.Mathlib.Omega.{arith}
use lib.ListN.{length, set, take, drop, length-append}
use lib.Seq.{sets, sets-eq, take_all, take-append-le, take_at, drop-set-add, length-take-le}
use Rattle.transducer.specs.Format.{max_arcs}
use Rattle.transducer.specs.declared.Arc.{Arc}
use Rattle.transducer.specs.Encode.{arc_record, arc_records}
use Rattle.transducer.proofs.Encode.{length_arc_record, arc_records_append}
use Rattle.explore.specs.Walk.{max_arc_bytes}

-- What stands before the elements stored, and they behind it.
pub take_sets : (xs : List ℕ) (k : ℕ) (vs : List ℕ) → k + length vs ≤ length xs → take (k + length vs) (sets xs k vs) ≡ take k xs ++ vs
take_sets xs k vs fits =
    let long : length (take k xs) ≡ k = length-take-le k xs (omega arith) in
    ap (λ (l : List ℕ). take (k + length vs) l) (sets-eq vs xs k fits)
    ∙ take_at (take k xs ++ vs) (drop (k + length vs) xs) (k + length vs) (simp length-append (omega arith))

pub drop_sets : (base : ℕ) (xs : List ℕ) (k : ℕ) (vs : List ℕ) → drop base (sets xs (base + k) vs) ≡ sets (drop base xs) k vs
drop_sets base xs k [] = refl
drop_sets base xs k (v ∷ vs) =
    ap (λ (n : ℕ). drop base (sets (set xs (base + k) v) n vs)) (sym (add-suc base k))
    ∙ drop_sets base (set xs (base + k) v) (suc k) vs
    ∙ ap (λ (l : List ℕ). sets l (suc k) vs) (drop-set-add base xs k v)

-- A buffer that holds a list at its front holds it with more behind.
pub front_next : (os xs : List ℕ) (n : ℕ) (vs : List ℕ) → length os ≡ n → n + length vs ≤ length xs → take n xs ≡ take n os
    → take (n + length vs) (sets xs n vs) ≡ take (n + length vs) (os ++ vs)
front_next os xs n vs long fits is =
    let all : take n os ≡ os = take_all n os (omega arith) in
    let whole : take (n + length vs) (os ++ vs) ≡ os ++ vs = take_all (n + length vs) (os ++ vs) (simp length-append (omega arith)) in
    rw (whole, take_sets xs n vs fits, is, all)

-- The records of arcs from the front on: one more is written, or the 3,072 that are written stay.
pub written_next : (count : ℕ) (as' : List Arc) (a : Arc) (table : List ℕ) → length as' ≡ count → count < max_arcs → max_arc_bytes ≤ length table
    → take (16 * min (length as') max_arcs) table ≡ arc_records (take max_arcs as')
    → take (16 * min (length (as' ++ (a ∷ []))) max_arcs) (sets table (16 * count) (arc_record a))
    ≡ arc_records (take max_arcs (as' ++ (a ∷ [])))
unfolding arc_records
written_next count as' a table long less fits is =
    let n : 16 * min (length as') max_arcs ≡ 16 * count = omega arith in
    let e : 16 * min (length (as' ++ (a ∷ []))) max_arcs ≡ 16 * count + length (arc_record a) =
    omega (arith, length-append as' (a ∷ []), length_arc_record a) in
    let all : take max_arcs as' ≡ as' = take_all max_arcs as' (omega arith) in
    let whole : take max_arcs (as' ++ (a ∷ [])) ≡ as' ++ (a ∷ []) = take_all max_arcs (as' ++ (a ∷ [])) (simp length-append (omega arith)) in
    let one : arc_records (a ∷ []) ≡ arc_record a = append-nil (arc_record a) in
    let stands : take (16 * count) table ≡ arc_records as' = rw (← n) (is ∙ ap arc_records all) in
    let room : 16 * count + length (arc_record a) ≤ length table = omega (arith, length_arc_record a) in
    rw (e, whole, arc_records_append as' (a ∷ []), one, ← stands) (take_sets table (16 * count) (arc_record a) room)

pub written_full : (as' : List Arc) (a : Arc) (table : List ℕ) → max_arcs ≤ length as'
    → take (16 * min (length as') max_arcs) table ≡ arc_records (take max_arcs as')
    → take (16 * min (length (as' ++ (a ∷ []))) max_arcs) table ≡ arc_records (take max_arcs (as' ++ (a ∷ [])))
written_full as' a table full is =
    let e : min (length (as' ++ (a ∷ []))) max_arcs ≡ min (length as') max_arcs = omega (arith, length-append as' (a ∷ [])) in
    rw (e, take-append-le max_arcs as' (a ∷ []) full) is
