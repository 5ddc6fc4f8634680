-- What bytes were as a transducer while weights had no sign, and which were refused then (paper 02, Point 8: old tables mean what they meant), but that
-- labels are tested as they are now: 7 refused every label of 65,535 then, and since Point 5 no longer refuses an arc for any symbol.
-- Assumes nothing: these are definitions.
use Rattle.std.specs.Prelude.{◌≡◌, Bool, ◌&&◌, not, cond, List, [], ◌∷◌, ℕ, ◌+◌, eqb, length}
use Rattle.wire.specs.Bytes.{two, four, every}
use Rattle.transducer.specs.declared.Arc.{Arc}
use Rattle.transducer.specs.declared.Final.{Final}
use Rattle.transducer.specs.Format.{Transducer, Record, max_weight, framed, records, kinds_good, head_states, head_arcs, head_finals, head_start}
use Rattle.transducer.specs.Format.{decode, head_good, states_good, order_good, all_labels_good, weights_good, first_of, refusal}
use Rattle.transducer.specs.Weight.{Weight, amount, at_most}

-- The weight in four bytes was their number.
unfoldable pub unsigned_at : List ℕ → (at : ℕ) → Weight
unsigned_at bs at = amount (four bs at)

unfoldable pub unsigned_finals : List ℕ → List Record → List Final
unsigned_finals bs [] = []
unsigned_finals bs (r ∷ rs) =
    cond (eqb r.kind 2) (record { state = two bs r.body; weight = unsigned_at bs (r.body + 2) } ∷ unsigned_finals bs rs) (unsigned_finals bs rs)

unfoldable pub unsigned_arcs : List ℕ → List Record → List Arc
unsigned_arcs bs [] = []
unsigned_arcs bs (r ∷ rs) =
    let at = r.body in
    cond (eqb r.kind 3)
    (record { source = two bs at; input = two bs (at + 2); output = two bs (at + 4); target = two bs (at + 6); weight = unsigned_at bs (at + 8) }
    ∷ unsigned_arcs bs rs) (unsigned_arcs bs rs)

unfoldable pub unsigned_decode : List ℕ → Transducer
unsigned_decode bs =
    record { states = head_states bs; start = head_start bs; finals = unsigned_finals bs (records bs); arcs = unsigned_arcs bs (records bs) }

-- 8 was a weight above 1,000,000. The other refusals are those of now: they were the same, 7 aside.
unfoldable pub unsigned_weights_good : Transducer → Bool
unsigned_weights_good t =
    every (λ f. at_most f.weight max_weight) t.finals && every (λ a. at_most a.weight max_weight) t.arcs

unfoldable pub unsigned_refusal : List ℕ → ℕ
unsigned_refusal bs =
    cond (not (framed bs)) 1
    (cond (not (kinds_good (records bs))) 2
    (cond (not (head_good (head_states bs) (head_arcs bs) (head_finals bs) (head_start bs))) 3
    (cond (not (eqb (length (unsigned_decode bs).finals) (head_finals bs) && eqb (length (unsigned_decode bs).arcs) (head_arcs bs))) 4
    (first_of (states_good (unsigned_decode bs)) (order_good (unsigned_decode bs)) (all_labels_good (unsigned_decode bs))
    (unsigned_weights_good (unsigned_decode bs))))))

-- Bytes that were accepted are accepted, as the transducer that they were, arc for arc; those that were refused by 8 are accepted exactly where all their
-- weights, read with their sign, are in range; the others are refused by the same number. (Labels are tested as they are now in all of this.)
pub record AsBefore (bs : List ℕ) : Type 0 where
  pub accepted : unsigned_refusal bs ≡ 0 → refusal bs ≡ 0
  pub same : unsigned_refusal bs ≡ 0 → decode bs ≡ unsigned_decode bs
  pub refused : (unsigned_refusal bs ≡ 8 → ⊥) → refusal bs ≡ unsigned_refusal bs
  pub refused_by_8 : unsigned_refusal bs ≡ 8 → refusal bs ≡ cond (weights_good (decode bs)) 0 8

-- What is claimed: this holds of every list of numbers, so of whatever bytes a call is handed. Nothing is assumed.
abbrev pub AlwaysAsBefore : Type 0
AlwaysAsBefore = (bs : List ℕ) → AsBefore bs
