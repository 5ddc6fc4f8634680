-- Laws of written records: how long they are, and what a buffer holds once they are stored one behind the other. Assumes nothing.
use Rattle.std.proofs.Common.{◌≡◌, ℕ, ◌+◌, ◌*◌, ◌≤◌, List, [], ◌∷◌, ◌++◌, length, drop, sym, refl, ap, ◌∙◌, append_assoc, append-nil, mul-zero, zero-add, mul-suc, add-one, arith, length-append}
use lib.Seq.{sets, sets-eq}
use Rattle.wire.specs.Bytes.{low, signed_low, places, filled, cleared}
use Rattle.wire.proofs.Places.{length_places, places_snoc, sets_append, cleared_front}
use Rattle.transducer.specs.declared.Arc.{Arc}
use Rattle.transducer.specs.declared.Final.{Final}
use Rattle.transducer.specs.Format.{arc_bytes, arcs_at, Transducer}
use Rattle.transducer.specs.Encode.{weight_bytes, head_record, final_record, arc_record, final_records, arc_records, encode}

-- Two runs of stores, the second right behind the first, are one.
pub sets_then : (out : List ℕ) (at k : ℕ) (xs ys : List ℕ) {mid last : List ℕ} → length xs ≡ k → mid ≡ sets out at xs →
    last ≡ sets mid (at + k) ys → last ≡ sets out at (xs ++ ys)
sets_then out at k xs ys long first more =
    more
    ∙ ap (λ (o : List ℕ). sets o (at + k) ys) first
    ∙ ap (λ (j : ℕ). sets (sets out at xs) (at + j) ys) (sym long)
    ∙ sym (sets_append out at xs ys)

-- one record

pub length_head_record : (n m f s : ℕ) → length (head_record n m f s) ≡ 12
unfolding head_record low
length_head_record n m f s = refl

pub length_final_record : (f : Final) → length (final_record f) ≡ 10
unfolding final_record weight_bytes signed_low low
length_final_record f = refl

pub length_arc_record : (a : Arc) → length (arc_record a) ≡ 16
unfolding arc_record weight_bytes signed_low low
length_arc_record a = refl

-- Stored field after field, a record stands.
pub sets_head : (out : List ℕ) (n m f s : ℕ) {o1 o2 o3 o4 o5 o6 : List ℕ} → o1 ≡ sets out 0 (low 2 8) → o2 ≡ sets o1 2 (low 2 1) →
    o3 ≡ sets o2 4 (low 2 n) → o4 ≡ sets o3 6 (low 2 m) → o5 ≡ sets o4 8 (low 2 f) → o6 ≡ sets o5 10 (low 2 s) →
    o6 ≡ sets out 0 (head_record n m f s)
unfolding head_record low
sets_head out n m f s h1 h2 h3 h4 h5 h6 =
    let a = low 2 8 ++ low 2 1 in
    let b = a ++ low 2 n in
    let c = b ++ low 2 m in
    let d = c ++ low 2 f in
    sets_then out 0 10 d (low 2 s) refl
    (sets_then out 0 8 c (low 2 f) refl
    (sets_then out 0 6 b (low 2 m) refl (sets_then out 0 4 a (low 2 n) refl (sets_then out 0 2 (low 2 8) (low 2 1) refl h1 h2) h3) h4) h5) h6

pub sets_final : (out : List ℕ) (at : ℕ) (f : Final) {o1 o2 o3 o4 : List ℕ} → o1 ≡ sets out at (low 2 6) → o2 ≡ sets o1 (at + 2) (low 2 2) →
    o3 ≡ sets o2 (at + 4) (low 2 f.state) → o4 ≡ sets o3 (at + 6) (weight_bytes f.weight) → o4 ≡ sets out at (final_record f)
unfolding final_record low
sets_final out at f h1 h2 h3 h4 =
    let a = low 2 6 ++ low 2 2 in
    let b = a ++ low 2 f.state in
    sets_then out at 6 b (weight_bytes f.weight) refl
    (sets_then out at 4 a (low 2 f.state) refl (sets_then out at 2 (low 2 6) (low 2 2) refl h1 h2) h3) h4

pub sets_arc : (out : List ℕ) (at : ℕ) (a : Arc) {o1 o2 o3 o4 o5 o6 o7 : List ℕ} → o1 ≡ sets out at (low 2 12) → o2 ≡ sets o1 (at + 2) (low 2 3) →
    o3 ≡ sets o2 (at + 4) (low 2 a.source) → o4 ≡ sets o3 (at + 6) (low 2 a.input) → o5 ≡ sets o4 (at + 8) (low 2 a.output) →
    o6 ≡ sets o5 (at + 10) (low 2 a.target) → o7 ≡ sets o6 (at + 12) (weight_bytes a.weight) → o7 ≡ sets out at (arc_record a)
unfolding arc_record low
sets_arc out at a h1 h2 h3 h4 h5 h6 h7 =
    let b = low 2 12 ++ low 2 3 in
    let c = b ++ low 2 a.source in
    let d = c ++ low 2 a.input in
    let e = d ++ low 2 a.output in
    let f = e ++ low 2 a.target in
    sets_then out at 12 f (weight_bytes a.weight) refl
    (sets_then out at 10 e (low 2 a.target) refl
    (sets_then out at 8 d (low 2 a.output) refl
    (sets_then out at 6 c (low 2 a.input) refl
    (sets_then out at 4 b (low 2 a.source) refl (sets_then out at 2 (low 2 12) (low 2 3) refl h1 h2) h3) h4) h5) h6) h7

-- Runs of records of one size, said of finals and arcs alike: `all` makes of a list the records `one` of its elements.
module _ {A : Type 0} (size : ℕ) (one : A → List ℕ) (all : List A → List ℕ) (none : all [] ≡ [])
    (more : (x : A) (xs : List A) → all (x ∷ xs) ≡ one x ++ all xs) (sized : (x : A) → length (one x) ≡ size) where
  length_run : (xs : List A) → length (all xs) ≡ size * length xs
  length_run [] = ap length none ∙ sym (mul-zero size)
  length_run (x ∷ xs) =
      ap length (more x xs) ∙ length-append (one x) (all xs) ∙ omega (arith, sized x, length_run xs, mul-suc size (length xs))

  run_append : (xs ys : List A) → all (xs ++ ys) ≡ all xs ++ all ys
  run_append [] ys = ap (λ (l : List ℕ). l ++ all ys) (sym none)
  run_append (x ∷ xs) ys =
      more x (xs ++ ys)
      ∙ ap (λ (l : List ℕ). one x ++ l) (run_append xs ys)
      ∙ sym (append_assoc (one x) (all xs) (all ys))
      ∙ ap (λ (l : List ℕ). l ++ all ys) (sym (more x xs))

  -- One more record behind the first i.
  sets_run : (out : List ℕ) (from at i : ℕ) (f : ℕ → A) {mid last : List ℕ} → at ≡ from + size * i → mid ≡ sets out from (all (places i 0 1 f)) →
      last ≡ sets mid at (one (f i)) → last ≡ sets out from (all (places (i + 1) 0 1 f))
  sets_run out from at i f place first next =
      let here : 0 + 1 * i ≡ i = omega arith in
      let longer : places (i + 1) 0 1 f ≡ places i 0 1 f ++ (f i ∷ []) = rw add-one (places_snoc i 0 1 f ∙ rw here) in
      let single : all (f i ∷ []) ≡ one (f i) = more (f i) [] ∙ rw none (append-nil (one (f i))) in
      let long : length (all (places i 0 1 f)) ≡ size * i = length_run (places i 0 1 f) ∙ ap (λ (k : ℕ). size * k) (length_places i 0 1 f) in
      sets_then out from (size * i) (all (places i 0 1 f)) (one (f i)) long first (rw (← place) next)
      ∙ ap (λ (l : List ℕ). sets out from l)
      (ap (λ (l : List ℕ). all (places i 0 1 f) ++ l) (sym single) ∙ sym (run_append (places i 0 1 f) (f i ∷ [])) ∙ ap all (sym longer))

-- final_records

pub length_final_records : (fs : List Final) → length (final_records fs) ≡ 10 * length fs
unfolding final_records
length_final_records = length_run 10 final_record final_records refl (λ f fs. refl) length_final_record

pub final_records_append : (fs gs : List Final) → final_records (fs ++ gs) ≡ final_records fs ++ final_records gs
unfolding final_records
final_records_append = run_append 10 final_record final_records refl (λ f fs. refl) length_final_record

pub sets_finals : (out : List ℕ) (from at i : ℕ) (f : ℕ → Final) {mid last : List ℕ} → at ≡ from + 10 * i →
    mid ≡ sets out from (final_records (places i 0 1 f)) → last ≡ sets mid at (final_record (f i)) →
    last ≡ sets out from (final_records (places (i + 1) 0 1 f))
unfolding final_records
sets_finals = sets_run 10 final_record final_records refl (λ f fs. refl) length_final_record

-- arc_records

pub length_arc_records : (as' : List Arc) → length (arc_records as') ≡ arc_bytes * length as'
unfolding arc_records
length_arc_records = length_run 16 arc_record arc_records refl (λ a as'. refl) length_arc_record

pub arc_records_append : (as' bs : List Arc) → arc_records (as' ++ bs) ≡ arc_records as' ++ arc_records bs
unfolding arc_records
arc_records_append = run_append 16 arc_record arc_records refl (λ a as'. refl) length_arc_record

pub sets_arcs : (out : List ℕ) (from at i : ℕ) (f : ℕ → Arc) {mid last : List ℕ} → at ≡ from + arc_bytes * i →
    mid ≡ sets out from (arc_records (places i 0 1 f)) → last ≡ sets mid at (arc_record (f i)) →
    last ≡ sets out from (arc_records (places (i + 1) 0 1 f))
unfolding arc_records
sets_arcs = sets_run 16 arc_record arc_records refl (λ a as'. refl) length_arc_record

-- No record at all is no store.
pub sets_no_finals : (out : List ℕ) (from : ℕ) (f : ℕ → Final) → out ≡ sets out from (final_records (places 0 0 1 f))
unfolding final_records places
sets_no_finals out from f = refl

pub sets_no_arcs : (out : List ℕ) (from : ℕ) (f : ℕ → Arc) → out ≡ sets out from (arc_records (places 0 0 1 f))
unfolding arc_records places
sets_no_arcs out from f = refl

-- encode

pub length_encode : (t : Transducer) → length (encode t) ≡ arcs_at (length t.finals) + arc_bytes * length t.arcs
unfolding encode
length_encode t =
    let head = head_record t.states (length t.arcs) (length t.finals) t.start in
    let fins = final_records t.finals in
    let arcs = arc_records t.arcs in
    length-append (head ++ fins) arcs
    ∙ omega (
      arith,
      length-append head fins,
      length_head_record t.states (length t.arcs) (length t.finals) t.start,
      length_final_records t.finals,
      length_arc_records t.arcs,
    )

-- The head, the finals and the arcs stored.
pub sets_encode : (t : Transducer) (out : List ℕ) (f m : ℕ) {o1 o2 o3 : List ℕ} → length t.finals ≡ f → length t.arcs ≡ m →
    o1 ≡ sets out 0 (head_record t.states m f t.start) → o2 ≡ sets o1 12 (final_records t.finals) →
    o3 ≡ sets o2 (arcs_at f) (arc_records t.arcs) → o3 ≡ sets out 0 (encode t)
unfolding encode
sets_encode t out f m fs ms h1 h2 h3 =
    let head = head_record t.states (length t.arcs) (length t.finals) t.start in
    let fins = final_records t.finals in
    let sized : length head ≡ 12 = length_head_record t.states (length t.arcs) (length t.finals) t.start in
    let long : length (head ++ fins) ≡ arcs_at f = length-append head fins ∙ omega (arith, sized, length_final_records t.finals) in
    sets_then out 0 (arcs_at f) (head ++ fins) (arc_records t.arcs) long (sets_then out 0 12 head fins sized (rw (fs, ms) h1) h2) (rw zero-add h3)

-- What is stored from the front, and cleared behind.
pub cleared_sets : (xs out : List ℕ) (end : ℕ) {stored last : List ℕ} → length xs ≡ end → end ≤ length out → stored ≡ sets out 0 xs →
    last ≡ cleared end stored → last ≡ filled (length out) xs
cleared_sets xs out end long room h1 h2 =
    let front : sets out 0 xs ≡ xs ++ drop end out = sets-eq xs out 0 (omega arith) ∙ rw (zero-add, long) in
    h2 ∙ ap (λ (o : List ℕ). cleared end o) (h1 ∙ front) ∙ cleared_front end xs out long room
