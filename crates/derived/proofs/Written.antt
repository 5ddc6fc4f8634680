-- The head and the finals copied, arcs written behind them, and what was written read back. Assumes nothing.
use mathlib.Core.Path.{◌≡◌, sym, ap, ◌∙◌}
use mathlib.Core.List.{List, ◌++◌, append_assoc}
use Prim.Native.Nat.{ℕ, ◌+◌, ◌*◌, ◌≤◌}
use native.Mathlib.Omega.{arith}
use lib.ListN.{length, take, drop, length-append}
use lib.Seq.{sets, sets-eq, take-length, take-append-le, take_at}
use Rattle.wire.specs.Bytes.{Bytes}
use Rattle.transducer.specs.declared.Arc.{Arc}
use Rattle.transducer.specs.Format.{Transducer, Good, refusal, decode, arc_bytes, arcs_at}
use Rattle.transducer.specs.Encode.{head_record, final_records, arc_records, encode}
use Rattle.transducer.proofs.Encode.{length_head_record, length_final_records, length_arc_records}
use Rattle.transducer.proofs.RoundTrip.{encode_decode, decode_encode, refusal_encode}
use Rattle.derived.specs.Put.{Puts}

-- What was written is accepted, and decodes to what was to be written.
pub record ReadsBack (t : Transducer) (bs : List ℕ) : Type 0 where
  pub accepted : refusal bs ≡ 0
  pub decoded : decode bs ≡ t

pub reads_back : {t : Transducer} {len : ℕ} {out : List ℕ} → Good t → Puts t len out → ReadsBack t (take len out)
reads_back {t} {len} {out} g p =
    record { accepted = ap refusal p.table ∙ refusal_encode t g; decoded = ap decode p.table ∙ decode_encode t g }

pub puts_by : (t : Transducer) (len : ℕ) (out rest : List ℕ) → len ≡ length (encode t) → out ≡ encode t ++ rest → Puts t len out
puts_by t len out rest size is =
    let e : List ℕ = encode t in
    record {
      len_is = size;
      table = ap (take len) is ∙ (ap (λ (k : ℕ). take k (e ++ rest)) size ∙ (take-append-le (length e) e rest (omega arith) ∙ take-length e));
    }

-- The head of a transducer.
abbrev pub head_of : Transducer → List ℕ
head_of t = head_record t.states (length t.arcs) (length t.finals) t.start

-- The bytes in front of the arcs are the head and the finals.
pub front_is : (bs : List ℕ) → Bytes bs → refusal bs ≡ 0 → (at : ℕ) → at ≡ arcs_at (length (decode bs).finals)
    → take at bs ≡ head_of (decode bs) ++ final_records (decode bs).finals
unfolding encode
front_is bs bytes ok at e =
    let t : Transducer = decode bs in
    let h : List ℕ = head_of t in
    let f : List ℕ = final_records t.finals in
    let size : length (h ++ f) ≡ at =
    omega (arith, length-append h f, length_head_record t.states (length t.arcs) (length t.finals) t.start, length_final_records t.finals, e) in
    ap (take at) (sym (encode_decode bs bytes ok)) ∙ take_at (h ++ f) (arc_records t.arcs) at size

-- The front copied and arcs written behind it.
pub behind_front : (bs : List ℕ) → Bytes bs → refusal bs ≡ 0 → (at : ℕ) (arcs : List Arc) (o1 o2 : List ℕ) → at ≡ arcs_at (length (decode bs).finals)
    → at + arc_bytes * length arcs ≤ length o1 → take at o1 ≡ take at bs → o2 ≡ sets o1 at (arc_records arcs)
    → o2 ≡ head_of (decode bs) ++ (final_records (decode bs).finals ++ (arc_records arcs ++ drop (at + length (arc_records arcs)) o1))
behind_front bs bytes ok at arcs o1 o2 place room copied put =
    let t : Transducer = decode bs in
    let h : List ℕ = head_of t in
    let f : List ℕ = final_records t.finals in
    let a : List ℕ = arc_records arcs in
    let x : List ℕ = drop (at + length a) o1 in
    let la : length a ≡ arc_bytes * length arcs = length_arc_records arcs in
    put
    ∙ (sets-eq a o1 at (omega (arith, la, room))
    ∙ (ap (λ (l : List ℕ). (l ++ a) ++ x) (copied ∙ front_is bs bytes ok at place)
    ∙ (append_assoc (h ++ f) a x ∙ append_assoc h f (a ++ x))))
