-- Refusals 1 to 8 are small. Assumes nothing.
use Rattle.std.proofs.Common.{ℕ, ◌≤◌, Bool, true, false, cond, not, ◌&&◌, eqb, List, length, arith}
use Rattle.transducer.specs.Format.{Transducer, refusal, content_refusal, first_of, decode, framed, kinds_good, records, head_good}
use Rattle.transducer.specs.Format.{head_states, head_arcs, head_finals, head_start, states_good, order_good, all_labels_good, weights_good}

first_of_most : (a b c d : Bool) → first_of a b c d ≤ 8
unfolding first_of
first_of_most true true true true = omega arith
first_of_most true true true false = omega arith
first_of_most true true false d = omega arith
first_of_most true false c d = omega arith
first_of_most false b c d = omega arith

chain_most : (a b c d : Bool) (r : ℕ) → r ≤ 8 → cond (not a) 1 (cond (not b) 2 (cond (not c) 3 (cond (not d) 4 r))) ≤ 8
chain_most true true true true r h = h
chain_most true true true false r h = omega arith
chain_most true true false d r h = omega arith
chain_most true false c d r h = omega arith
chain_most false b c d r h = omega arith

pub refusal_most : (bs : List ℕ) → refusal bs ≤ 8
unfolding refusal content_refusal
refusal_most bs =
    let t : Transducer = decode bs in
    chain_most (framed bs) (kinds_good (records bs)) (head_good (head_states bs) (head_arcs bs) (head_finals bs) (head_start bs))
    (eqb (length t.finals) (head_finals bs) && eqb (length t.arcs) (head_arcs bs)) (content_refusal t)
    (first_of_most (states_good t) (order_good t) (all_labels_good t) (weights_good t))
