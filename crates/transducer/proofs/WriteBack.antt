-- What is read from laid bytes, written back, is those bytes: record by record, each put in front of what stands behind it.
-- Assumes nothing.
use Rattle.std.proofs.Common.{◌≡◌, ℕ, zero, suc, ◌+◌, ◌*◌, ◌<◌, ◌≤◌, true, eqb, List, [], ◌++◌, length, drop, refl, append_assoc, append-nil, add-zero, arith, eqb-true}
use lib.Seq.{drop-length}
use Rattle.wire.specs.Bytes.{Bytes, two, four, low, places, every}
use Rattle.wire.proofs.Low.{low_two_drop, four_halves}
use Rattle.wire.proofs.Signed.{signed_low_four_drop}
use Rattle.wire.proofs.Places.{length_places}
use Rattle.wire.proofs.Bool.{and-true}
use Rattle.transducer.specs.Format.{head_bytes, final_bytes, arc_bytes, arcs_at, final_at, arc_at, weight_at, head_states, head_arcs}
use Rattle.transducer.specs.Format.{head_finals, head_start}
use Rattle.transducer.specs.Encode.{encode, head_record, final_record, arc_record, final_records, arc_records, weight_bytes}
use Rattle.transducer.specs.Check.{head_word, final_word, arc_word}
use Rattle.transducer.proofs.Laid.{Laid}

-- The first four bytes of a record, then two bytes more or a weight, put in front of what stands behind them.
word_back : (bs : List ℕ) (at size kind : ℕ) → Bytes bs → size < 65536 → four bs at ≡ size + 65536 * kind → at + 4 ≤ length bs →
    low 2 size ++ (low 2 kind ++ drop (at + 4) bs) ≡ drop at bs
word_back bs at size kind h s e l =
    let halves : (two bs at ≡ size) × (two bs (at + 2) ≡ kind) = four_halves bs at size kind h s e in
    let next : at + 4 ≡ at + 2 + 2 = omega arith in
    rw (← halves.0, ← halves.1, next, low_two_drop bs (at + 2) h (omega arith), low_two_drop bs at h (omega arith))

two_back : (bs : List ℕ) (at next : ℕ) → Bytes bs → next ≡ at + 2 → next ≤ length bs → low 2 (two bs at) ++ drop next bs ≡ drop at bs
two_back bs at next h e l = rw e (low_two_drop bs at h (omega arith))

weight_back : (bs : List ℕ) (at next : ℕ) → Bytes bs → next ≡ at + 4 → next ≤ length bs → weight_bytes (weight_at bs at) ++ drop next bs ≡ drop at bs
unfolding weight_at weight_bytes
weight_back bs at next h e l = rw e (signed_low_four_drop bs at h (omega arith))

head_back : (bs : List ℕ) → Bytes bs → 12 ≤ length bs → four bs 0 ≡ head_word →
    head_record (head_states bs) (head_arcs bs) (head_finals bs) (head_start bs) ++ drop 12 bs ≡ bs
unfolding head_record head_states head_arcs head_finals head_start
head_back bs h l e =
    simp append_assoc
    (rw (
      two_back bs 10 12 h refl (omega arith),
      two_back bs 8 10 h refl (omega arith),
      two_back bs 6 8 h refl (omega arith),
      two_back bs 4 6 h refl (omega arith),
    ) (word_back bs 0 8 1 h (omega arith) e (omega arith)))

final_back : (bs : List ℕ) (at : ℕ) → Bytes bs → at + 10 ≤ length bs → four bs at ≡ final_word →
    final_record (final_at bs at) ++ drop (at + 10) bs ≡ drop at bs
unfolding final_record final_at
final_back bs at h l e =
    simp append_assoc
    (rw (
      weight_back bs (at + 6) (at + 10) h (omega arith) l,
      two_back bs (at + 4) (at + 6) h (omega arith) (omega arith),
    ) (word_back bs at 6 2 h (omega arith) e (omega arith)))

arc_back : (bs : List ℕ) (at : ℕ) → Bytes bs → at + 16 ≤ length bs → four bs at ≡ arc_word →
    arc_record (arc_at bs at) ++ drop (at + 16) bs ≡ drop at bs
unfolding arc_record arc_at
arc_back bs at h l e =
    simp append_assoc
    (rw (
      weight_back bs (at + 12) (at + 16) h (omega arith) l,
      two_back bs (at + 10) (at + 12) h (omega arith) (omega arith),
      two_back bs (at + 8) (at + 10) h (omega arith) (omega arith),
      two_back bs (at + 6) (at + 8) h (omega arith) (omega arith),
      two_back bs (at + 4) (at + 6) h (omega arith) (omega arith),
    ) (word_back bs at 12 3 h (omega arith) e (omega arith)))

finals_back : (f : ℕ) (bs : List ℕ) (at : ℕ) → Bytes bs → at + 10 * f ≤ length bs → every (λ w. eqb w final_word) (places f at 10 (four bs)) ≡ true →
    final_records (places f at 10 (final_at bs)) ++ drop (at + 10 * f) bs ≡ drop at bs
unfolding final_records places every
finals_back zero bs at h l e = rw add-zero
finals_back (suc f) bs at h l e =
    let words : (eqb (four bs at) final_word ≡ true) × (every (λ w. eqb w final_word) (places f (at + 10) 10 (four bs)) ≡ true) = and-true _ _ e in
    let next : at + 10 * suc f ≡ at + 10 + 10 * f = omega arith in
    rw (next, append_assoc, finals_back f bs (at + 10) h (omega arith) words.1) (final_back bs at h (omega arith) (eqb-true _ _ words.0))

arcs_back : (m : ℕ) (bs : List ℕ) (at : ℕ) → Bytes bs → at + arc_bytes * m ≤ length bs → every (λ w. eqb w arc_word) (places m at 16 (four bs)) ≡ true →
    arc_records (places m at 16 (arc_at bs)) ++ drop (at + arc_bytes * m) bs ≡ drop at bs
unfolding arc_records places every
arcs_back zero bs at h l e = rw add-zero
arcs_back (suc m) bs at h l e =
    let words : (eqb (four bs at) arc_word ≡ true) × (every (λ w. eqb w arc_word) (places m (at + 16) 16 (four bs)) ≡ true) = and-true _ _ e in
    let next : at + arc_bytes * suc m ≡ at + 16 + arc_bytes * m = omega arith in
    rw (next, append_assoc, arcs_back m bs (at + 16) h (omega arith) words.1) (arc_back bs at h (omega arith) (eqb-true _ _ words.0))

records_back : (bs : List ℕ) (f m : ℕ) → Bytes bs → Laid bs f m →
    final_records (places f head_bytes final_bytes (final_at bs)) ++ arc_records (places m (arcs_at f) 16 (arc_at bs)) ≡ drop 12 bs
records_back bs f m h l =
    let end : drop (arcs_at f + arc_bytes * m) bs ≡ [] = rw (← l.long) (drop-length bs) in
    let arcs : arc_records (places m (arcs_at f) 16 (arc_at bs)) ++ [] ≡ drop (arcs_at f) bs =
    rw end at (arcs_back m bs (arcs_at f) h (omega arith) l.arcs) in
    rw (← append-nil (arc_records (places m (arcs_at f) 16 (arc_at bs))), arcs) (finals_back f bs 12 h (omega arith) l.finals)

pub encode_laid : (bs : List ℕ) → Bytes bs → Laid bs (head_finals bs) (head_arcs bs) →
    encode (record {
      states = head_states bs;
      start = head_start bs;
      finals = places (head_finals bs) head_bytes final_bytes (final_at bs);
      arcs = places (head_arcs bs) (arcs_at (head_finals bs)) 16 (arc_at bs);
    }) ≡ bs
unfolding encode
encode_laid bs h l =
    rw (
      length_places (head_arcs bs) (arcs_at (head_finals bs)) 16 (arc_at bs),
      length_places (head_finals bs) head_bytes final_bytes (final_at bs),
      append_assoc,
      records_back bs (head_finals bs) (head_arcs bs) h l,
    ) (head_back bs h (omega arith) l.head)
