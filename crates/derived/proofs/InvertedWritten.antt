-- The arcs written with their labels exchanged, and the inverted transducer written. Assumes nothing.
use mathlib.Core.Path.{◌≡◌, refl, sym, ap, ◌∙◌}
use mathlib.Core.Bool.{true}
use mathlib.Core.List.{List, [], ◌∷◌, ◌++◌, map, map-append, append_assoc, append-nil}
use Prim.Native.Nat.{ℕ, ◌+◌, ◌*◌, ◌≤◌, ◌<◌}
use native.Mathlib.Numerals.{add-one}
use native.Mathlib.Omega.{arith}
use lib.ListN.{length, get_or, take, drop, length-map}
use lib.Seq.{sets, take-suc, take_all, length-take-le}
use Rattle.wire.specs.Bytes.{Bytes}
use Rattle.transducer.specs.declared.Arc.{Arc}
use Rattle.transducer.specs.Format.{Transducer, refusal, decode, arc_bytes, arcs_at}
use Rattle.transducer.specs.Encode.{head_record, final_records, arc_record, arc_records, encode}
use Rattle.transducer.specs.Path.{no_arc}
use Rattle.transducer.proofs.Encode.{sets_then, length_arc_records, arc_records_append, length_encode}
use Rattle.derived.specs.Inverted.{inverted_arc, inverted}
use Rattle.derived.specs.Put.{Puts}
use Rattle.transducer.specs.Each.{has_no_any_input}
use Rattle.transducer.proofs.RoundTrip.{encode_decode}
use Rattle.derived.proofs.Written.{reads_back, puts_by, head_of, behind_front}
use Rattle.derived.proofs.Inverted.{inverted_twice, inverted_accepted}

-- The first i arcs stand inverted from `at` on.
pub record Inverting (l : List Arc) (at i : ℕ) (out₀ out : List ℕ) : Type 0 where
  pub within : i ≤ length l
  pub long : length out ≡ length out₀
  pub so_far : out ≡ sets out₀ at (arc_records (map inverted_arc (take i l)))

pub inverting_first : (l : List Arc) (at : ℕ) (out : List ℕ) → Inverting l at 0 out out
unfolding arc_records
inverting_first l at out = record { within = omega arith; long = refl; so_far = refl }

pub inverting_next : (l : List Arc) (at i : ℕ) (out₀ out last : List ℕ) (a a' : Arc) → i < length l → a ≡ get_or l i no_arc → a' ≡ inverted_arc a
    → length last ≡ length out → last ≡ sets out (at + arc_bytes * i) (arc_record a') → Inverting l at i out₀ out → Inverting l at (i + 1) out₀ last
unfolding arc_records
inverting_next l at i out₀ out last a a' h is turn same put k =
    let old : List Arc = map inverted_arc (take i l) in
    let taken : take (i + 1) l ≡ take i l ++ (a ∷ []) = rw (add-one, take-suc l i no_arc h, is) refl in
    let more : map inverted_arc (take (i + 1) l) ≡ old ++ (a' ∷ []) =
    ap (map inverted_arc) taken ∙ (map-append inverted_arc (take i l) (a ∷ []) ∙ ap (λ (b : Arc). old ++ (b ∷ [])) (sym turn)) in
    let one : arc_records (a' ∷ []) ≡ arc_record a' = append-nil (arc_record a') in
    let count : length old ≡ i = length-map (take i l) inverted_arc ∙ length-take-le i l (omega arith) in
    let sized : length (arc_records old) ≡ arc_bytes * i = length_arc_records old ∙ ap (λ (n : ℕ). arc_bytes * n) count in
    record {
      within = omega arith;
      long = same ∙ k.long;
      so_far = rw (more, arc_records_append old (a' ∷ []), one)
          (sets_then out₀ at (arc_bytes * i) (arc_records old) (arc_record a') sized k.so_far put);
    }

pub inverting_stop : (l : List Arc) (at i : ℕ) (out₀ out : List ℕ) → length l ≤ i → Inverting l at i out₀ out
    → out ≡ sets out₀ at (arc_records (map inverted_arc l))
inverting_stop l at i out₀ out h k = let all : take i l ≡ l = take_all i l h in rw all at k.so_far

-- The front copied, the inverted arcs behind it.
pub inverts : (bs : List ℕ) → Bytes bs → refusal bs ≡ 0 → (f m at len : ℕ) (o1 o2 : List ℕ) → f ≡ length (decode bs).finals → m ≡ length (decode bs).arcs
    → at ≡ arcs_at f → at + arc_bytes * m ≤ length o1 → take at o1 ≡ take at bs → o2 ≡ sets o1 at (arc_records (map inverted_arc (decode bs).arcs))
    → len ≡ at + arc_bytes * m → Puts (inverted (decode bs)) len o2
unfolding encode inverted
inverts bs bytes ok f m at len o1 o2 finals arcs place room copied put long =
    let t : Transducer = decode bs in
    let l : List Arc = map inverted_arc t.arcs in
    let few : length l ≡ length t.arcs = length-map t.arcs inverted_arc in
    let h : List ℕ = head_of t in
    let fs : List ℕ = final_records t.finals in
    let a : List ℕ = arc_records l in
    let x : List ℕ = drop (at + length a) o1 in
    let two : o2 ≡ h ++ (fs ++ (a ++ x)) =
    behind_front bs bytes ok at l o1 o2 (omega (arith, place, finals)) (omega (arith, room, few, arcs)) copied put in
    let heads : head_of (inverted t) ≡ h = ap (λ (n : ℕ). head_record t.states n (length t.finals) t.start) few in
    let all : encode (inverted t) ≡ (h ++ fs) ++ a = ap (λ (r : List ℕ). (r ++ fs) ++ a) heads in
    puts_by (inverted t) len o2 x (omega (arith, length_encode (inverted t), few, long, place, finals, arcs))
    (two ∙ (sym (append_assoc h fs (a ++ x)) ∙ (sym (append_assoc (h ++ fs) a x) ∙ ap (λ (r : List ℕ). r ++ x) (sym all))))

-- A table inverted, and what was written inverted again: the bytes that it began with.
pub inverted_back : (bs : List ℕ) → Bytes bs → refusal bs ≡ 0 → has_no_any_input (decode bs) ≡ true → {len len' : ℕ} {out out' : List ℕ}
    → Puts (inverted (decode bs)) len out → Puts (inverted (decode (take len out))) len' out' → take len' out' ≡ bs
inverted_back bs bytes ok none p q =
    q.table
    ∙ (ap (λ (t : Transducer). encode (inverted t)) (reads_back (inverted_accepted bs bytes ok none) p).decoded
    ∙ (ap encode (inverted_twice (decode bs)) ∙ encode_decode bs bytes ok))
