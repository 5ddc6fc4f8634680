-- What is stored, put together: the finals, the arcs behind them and the head last are a transducer's bytes; and a list at the front of a
-- buffer, with the rest cleared. Assumes nothing.
use mathlib.Core.Path.{◌≡◌, sym, ap, ◌∙◌}
use mathlib.Core.List.{List, ◌++◌, append_assoc}
use Prim.Native.Nat.{ℕ, ◌+◌, ◌*◌, ◌≤◌}
use native.Mathlib.Nat.{zero-add, add-zero}
use native.Mathlib.Omega.{arith}
use lib.ListN.{length, take, drop, length-append, length-drop}
use lib.Seq.{sets, sets-eq, length-sets, drop-drop}
use Rattle.wire.specs.Bytes.{filled, cleared}
use Rattle.transducer.specs.Format.{arcs_at, Transducer}
use Rattle.transducer.specs.Encode.{head_record, final_records, arc_records, encode}
use Rattle.transducer.proofs.Encode.{sets_then, length_head_record, length_final_records, length_arc_records}
use Rattle.explore.proofs.Writing.{drop_sets}

-- Stores from a place on, then at the front up to that place.
sets_front : (out xs : List ℕ) → length xs ≤ length out → sets out 0 xs ≡ xs ++ drop (length xs) out
sets_front out xs h = sets-eq xs out 0 (omega arith) ∙ (rw zero-add)

sets_before : (out head rest : List ℕ) (k : ℕ) → length head ≡ k → k + length rest ≤ length out
    → sets (sets out k rest) 0 head ≡ sets out 0 (head ++ rest)
sets_before out head rest k long fits =
    let whole : length (head ++ rest) ≡ k + length rest = length-append head rest ∙ ap (λ (n : ℕ). n + length rest) long in
    let behind : drop (length head) (sets out k rest) ≡ rest ++ drop (length rest) (drop k out) =
    ap (λ (n : ℕ). drop n (sets out k rest)) long
    ∙ ap (λ (n : ℕ). drop k (sets out n rest)) (sym (add-zero k))
    ∙ drop_sets k out 0 rest
    ∙ sets_front (drop k out) rest (omega (arith, length-drop k out)) in
    let left : sets (sets out k rest) 0 head ≡ head ++ (rest ++ drop (length rest) (drop k out)) =
    sets_front (sets out k rest) head (omega (arith, length-sets out k rest)) ∙ ap (λ (l : List ℕ). head ++ l) behind in
    let right : sets out 0 (head ++ rest) ≡ (head ++ rest) ++ drop (length rest) (drop k out) =
    sets_front out (head ++ rest) (omega arith)
    ∙ ap (λ (n : ℕ). (head ++ rest) ++ drop n out) whole
    ∙ ap (λ (l : List ℕ). (head ++ rest) ++ l) (sym (drop-drop (length rest) k out)) in
    left ∙ sym (append_assoc head rest (drop (length rest) (drop k out))) ∙ sym right

-- The finals, the arcs behind them, and the head last.
pub encode_stored : (t : Transducer) (out : List ℕ) {o1 o2 o3 : List ℕ} → arcs_at (length t.finals) + 16 * length t.arcs ≤ length out
    → o1 ≡ sets out 12 (final_records t.finals) → o2 ≡ sets o1 (arcs_at (length t.finals)) (arc_records t.arcs)
    → o3 ≡ sets o2 0 (head_record t.states (length t.arcs) (length t.finals) t.start) → o3 ≡ sets out 0 (encode t)
unfolding encode
encode_stored t out fits h1 h2 h3 =
    let head : List ℕ = head_record t.states (length t.arcs) (length t.finals) t.start in
    let fins : List ℕ = final_records t.finals in
    let arcs : List ℕ = arc_records t.arcs in
    let rest : List ℕ = fins ++ arcs in
    let long : length rest ≡ 10 * length t.finals + 16 * length t.arcs =
    length-append fins arcs ∙ omega (arith, length_final_records t.finals, length_arc_records t.arcs) in
    h3 ∙ ap (λ (o : List ℕ). sets o 0 head) (sets_then out 12 (10 * length t.finals) fins arcs (length_final_records t.finals) h1 h2)
    ∙ sets_before out head rest 12 (length_head_record t.states (length t.arcs) (length t.finals) t.start) (omega arith)
    ∙ ap (λ (l : List ℕ). sets out 0 l) (sym (append_assoc head fins arcs))

-- A list at the front of a buffer, and the rest cleared.
pub filled_front : (xs out out' : List ℕ) (k : ℕ) → length xs ≡ k → take k out ≡ xs → out' ≡ cleared k out → out' ≡ filled (length out) xs
unfolding cleared filled
filled_front xs out out' k long front is = is ∙ (rw (front, long))
