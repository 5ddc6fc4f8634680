-- A transducer, its bytes, and refusals 1 to 8. Assumes nothing: these are definitions.
use Rattle.std.specs.Prelude.{◌≡◌, ℕ, zero, suc, ◌+◌, Bool, true, false, cond, not, ◌&&◌, ltb, List, [], ◌∷◌, length, ◌==◌, nat_le, nat_lt}
use Rattle.wire.specs.Bytes.{two, signed_four, every}
pub use Rattle.bounds.specs.Bounds.{max_states, max_arcs, index_long, weight_limit, max_weight, min_weight, barred, any, max_symbols}
pub use Rattle.bounds.specs.Bounds.{max_path, max_count, max_fields, max_origins, head_bytes, final_bytes, arc_bytes, arcs_at, max_bytes}
unfoldable pub use Rattle.bounds.specs.Bounds.{head_good, labels_good, weight_good, first_of}
use Rattle.transducer.specs.declared.Arc.{Arc}
use Rattle.transducer.specs.declared.Final.{Final}
use Rattle.transducer.specs.Weight.{Weight}

-- A weighted transducer (paper 01: a table). An arc's number is its place in `arcs`.
pub record Transducer : Type 0 where
  pub states : ℕ
  pub start : ℕ
  pub finals : List Final
  pub arcs : List Arc

-- A record of the format: its kind, the length of its body, and the place where its body begins.
pub record Record : Type 0 where
  pub kind : ℕ
  pub size : ℕ
  pub body : ℕ

-- Whether records follow one another from a place to the very end, none running past it. The fuel is at least the bytes that are left.
unfoldable pub framed_from : (fuel : ℕ) → List ℕ → (at : ℕ) → Bool
framed_from zero bs at = true
framed_from (suc fuel) bs at =
    let rest = framed_from fuel bs (at + 4 + two bs at) in
    let fits = nat_le (at + 4) (length bs) && (nat_le (at + 4 + two bs at) (length bs) && rest) in
    cond (nat_lt at (length bs)) fits true

unfoldable pub framed : List ℕ → Bool
framed bs = framed_from (length bs) bs 0

-- The records from a place on: a 2-byte length, a 2-byte kind, the body.
unfoldable pub records_from : (fuel : ℕ) → List ℕ → (at : ℕ) → List Record
records_from zero bs at = []
records_from (suc fuel) bs at =
    let rest = records_from fuel bs (at + 4 + two bs at) in
    let all : List Record = record { kind = two bs (at + 2); size = two bs at; body = at + 4 } ∷ rest in
    cond (nat_lt at (length bs)) all []

unfoldable pub records : List ℕ → List Record
records bs = records_from (length bs) bs 0

-- Finals of length 6, none of them behind an arc, and arcs of length 12; no other kind.
unfoldable pub kind_good : (after_arc : Bool) → (kind size : ℕ) → Bool
kind_good after kind size = cond (kind == 2) (not after && size == 6) (kind == 3 && size == 12)

unfoldable pub in_order : (after_arc : Bool) → List Record → Bool
in_order after [] = true
in_order after (r ∷ rs) = kind_good after r.kind r.size && in_order (r.kind == 3) rs

-- The head record first and only once.
unfoldable pub kinds_good : List Record → Bool
kinds_good [] = false
kinds_good (r ∷ rs) = (r.kind == 1 && r.size == 8) && in_order false rs

-- The weight in four bytes, two's complement.
unfoldable pub weight_at : List ℕ → (at : ℕ) → Weight
weight_at bs at = signed_four bs at

-- The final and the arc whose record begins at a place.
unfoldable pub final_at : List ℕ → (at : ℕ) → Final
final_at bs at = record { state = two bs (at + 4); weight = weight_at bs (at + 6) }

unfoldable pub arc_at : List ℕ → (at : ℕ) → Arc
arc_at bs at =
    record { source = two bs (at + 4); input = two bs (at + 6); output = two bs (at + 8); target = two bs (at + 10); weight = weight_at bs (at + 12) }

unfoldable pub finals_in : List ℕ → List Record → List Final
finals_in bs [] = []
finals_in bs (r ∷ rs) =
    cond (r.kind == 2) (record { state = two bs r.body; weight = weight_at bs (r.body + 2) } ∷ finals_in bs rs) (finals_in bs rs)

unfoldable pub arcs_in : List ℕ → List Record → List Arc
arcs_in bs [] = []
arcs_in bs (r ∷ rs) =
    let at = r.body in
    cond (r.kind == 3)
    (record { source = two bs at; input = two bs (at + 2); output = two bs (at + 4); target = two bs (at + 6); weight = weight_at bs (at + 8) }
    ∷ arcs_in bs rs) (arcs_in bs rs)

-- The head record's four numbers: states, arcs, finals, start.
unfoldable pub head_states : List ℕ → ℕ
head_states bs = two bs 4

unfoldable pub head_arcs : List ℕ → ℕ
head_arcs bs = two bs 6

unfoldable pub head_finals : List ℕ → ℕ
head_finals bs = two bs 8

unfoldable pub head_start : List ℕ → ℕ
head_start bs = two bs 10

-- The transducer in the bytes.
unfoldable pub decode : List ℕ → Transducer
decode bs =
    record { states = head_states bs; start = head_start bs; finals = finals_in bs (records bs); arcs = arcs_in bs (records bs) }

-- 5: each state is below the number of states
unfoldable pub states_good : Transducer → Bool
states_good t =
    every (λ f. ltb f.state t.states) t.finals && every (λ a. nat_lt a.source t.states && nat_lt a.target t.states) t.arcs

-- 6: final states rise strictly, sources never fall; the floor is the least that may come next
unfoldable pub finals_rise : (floor : ℕ) → List Final → Bool
finals_rise floor [] = true
finals_rise floor (f ∷ fs) = nat_le floor f.state && finals_rise (f.state + 1) fs

unfoldable pub sources_stay : (floor : ℕ) → List Arc → Bool
sources_stay floor [] = true
sources_stay floor (a ∷ as') = nat_le floor a.source && sources_stay a.source as'

unfoldable pub order_good : Transducer → Bool
order_good t = finals_rise 0 t.finals && sources_stay 0 t.arcs

-- 7: only an arc that reads any symbol passes it on
unfoldable pub all_labels_good : Transducer → Bool
all_labels_good t = every (λ a. labels_good a.input a.output) t.arcs

-- 8: each weight is in range
unfoldable pub weights_good : Transducer → Bool
weights_good t = every (λ f. weight_good f.weight) t.finals && every (λ a. weight_good a.weight) t.arcs

unfoldable pub content_refusal : Transducer → ℕ
content_refusal t = first_of (states_good t) (order_good t) (all_labels_good t) (weights_good t)

-- Refusals 1 to 8 of bytes, the lowest first; 0 where they are accepted.
unfoldable pub refusal : List ℕ → ℕ
refusal bs =
    cond (not (framed bs)) 1
    (cond (not (kinds_good (records bs))) 2
    (cond (not (head_good (head_states bs) (head_arcs bs) (head_finals bs) (head_start bs))) 3
    (cond (not (length (decode bs).finals == head_finals bs && length (decode bs).arcs == head_arcs bs)) 4
    (content_refusal (decode bs)))))

-- A transducer that can be written: in range, and none of 5 to 8.
pub record Good (t : Transducer) : Type 0 where
  pub head : head_good t.states (length t.arcs) (length t.finals) t.start ≡ true
  pub content : content_refusal t ≡ 0
