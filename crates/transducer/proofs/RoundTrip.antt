-- The format's round trip: accepted bytes are what writing their transducer gives, and a good transducer, written, is accepted and reads
-- back as itself. What is written is read record by record, by what stands from a place on.
--     encode_decode     accepted bytes, read and written back
--     accepted_good     accepted bytes hold a good transducer
--     refusal_encode    a good transducer, written, is accepted
--     decode_encode     and reads back as itself
-- Assumes nothing.
use Rattle.std.proofs.Common.{◌≡◌, ℕ, ◌+◌, ◌*◌, ◌<◌, ◌≤◌, true, ◌&&◌, eqb, ltb, List, [], ◌∷◌, ◌++◌, length, drop, sym, refl, ap, ◌∙◌, append_assoc, add-zero, arith, drop-drop, drop_at, w32, SFits, ltb-true, eq-eqb}
use Rattle.wire.specs.Bytes.{Bytes, two, four, low, signed_four, signed_low, places, every}
use Rattle.wire.proofs.Low.{bytes_low, bytes_append, two_drop, four_drop, two_low_front}
use Rattle.wire.proofs.Signed.{bytes_signed_low, signed_four_drop, signed_low_front}
use Rattle.wire.proofs.Places.{length_places}
use Rattle.wire.proofs.Bool.{and-true, true_and}
use Rattle.transducer.specs.declared.Arc.{Arc}
use Rattle.transducer.specs.declared.Final.{Final}
use Rattle.transducer.specs.Format.{head_bytes, final_bytes, arcs_at, max_states}
use Rattle.transducer.specs.Format.{Transducer, Good, max_bytes, final_at, arc_at, weight_at, weight_good, labels_good, decode, refusal}
use Rattle.transducer.specs.Format.{head_good, content_refusal}
use Rattle.transducer.specs.Format.{all_labels_good, head_states, head_arcs, head_finals, head_start}
use Rattle.transducer.specs.Encode.{encode, head_record, final_record, arc_record, final_records, arc_records, weight_bytes}
use Rattle.transducer.specs.Check.{head_word, final_word, arc_word}
use Rattle.transducer.specs.Weight.{Weight}
use Rattle.transducer.proofs.Laid.{Laid, laid_decode}
use Rattle.transducer.proofs.Encode.{length_final_records, length_encode}
use Rattle.transducer.proofs.WriteBack.{encode_laid}
use Rattle.transducer.proofs.Labels.{good_short}
use Rattle.transducer.proofs.Accept.{accepted_laid, accepted_head, accepted_content, laid_refusal, ContentRange, content_range}
use Rattle.transducer.proofs.Good.{HeadRange, head_range, Content, good_tests, finals_inside, arcs_inside, finals_light, arcs_light}
use Rattle.transducer.proofs.Weights.{good_fits}

-- What is written: each element is a byte

record ByteList (xs : List ℕ) : Type 0 where
  each : Bytes xs

lowest : (n v : ℕ) → ByteList (low n v)
lowest n v = record { each = bytes_low n v }

none : ByteList []
none = record { each = λ i. omega arith }

joined : {xs ys : List ℕ} → ByteList xs → ByteList ys → ByteList (xs ++ ys)
joined {xs} {ys} p q = record { each = bytes_append xs ys p.each q.each }

head_bytes_are : (n m f s : ℕ) → ByteList (head_record n m f s)
unfolding head_record
head_bytes_are n m f s = joined (joined (joined (joined (joined (lowest 2 8) (lowest 2 1)) (lowest 2 n)) (lowest 2 m)) (lowest 2 f)) (lowest 2 s)

weight_bytes_are : (w : Weight) → ByteList (weight_bytes w)
unfolding weight_bytes
weight_bytes_are w = record { each = bytes_signed_low w }

final_bytes_are : (f : Final) → ByteList (final_record f)
unfolding final_record
final_bytes_are f = joined (joined (joined (lowest 2 6) (lowest 2 2)) (lowest 2 f.state)) (weight_bytes_are f.weight)

arc_bytes_are : (a : Arc) → ByteList (arc_record a)
unfolding arc_record
arc_bytes_are a =
    let labels : ByteList (low 2 12 ++ low 2 3 ++ low 2 a.source ++ low 2 a.input ++ low 2 a.output) =
    joined (joined (joined (joined (lowest 2 12) (lowest 2 3)) (lowest 2 a.source)) (lowest 2 a.input)) (lowest 2 a.output) in
    joined (joined labels (lowest 2 a.target)) (weight_bytes_are a.weight)

finals_bytes : (fs : List Final) → ByteList (final_records fs)
unfolding final_records
finals_bytes [] = none
finals_bytes (f ∷ fs) = joined (final_bytes_are f) (finals_bytes fs)

arcs_bytes : (xs : List Arc) → ByteList (arc_records xs)
unfolding arc_records
arcs_bytes [] = none
arcs_bytes (a ∷ xs) = joined (arc_bytes_are a) (arcs_bytes xs)

encode_bytes : (t : Transducer) → ByteList (encode t)
unfolding encode
encode_bytes t =
    joined (joined (head_bytes_are t.states (length t.arcs) (length t.finals) t.start) (finals_bytes t.finals)) (arcs_bytes t.arcs)

pub bytes_encode : (t : Transducer) → Bytes (encode t)
bytes_encode t = (encode_bytes t).each

-- What a good transducer's numbers and tests are

pub good_range : (t : Transducer) → Good t → HeadRange t.states (length t.arcs) (length t.finals) t.start
good_range t g = head_range _ _ _ _ g.head

pub good_content : (t : Transducer) → Good t → ContentRange t
good_content t g = content_range t g.content

pub length_encode_below : (t : Transducer) → Good t → length (encode t) ≤ max_bytes
length_encode_below t g =
    let r : HeadRange t.states (length t.arcs) (length t.finals) t.start = good_range t g in
    omega (arith, length_encode t)

-- Accepted bytes

pub encode_decode : (bs : List ℕ) → Bytes bs → refusal bs ≡ 0 → encode (decode bs) ≡ bs
encode_decode bs h e =
    let l : Laid bs (head_finals bs) (head_arcs bs) = accepted_laid h e in
    ap encode (laid_decode h l) ∙ encode_laid bs h l

-- Accepted bytes hold a good transducer.
pub accepted_good : (bs : List ℕ) → Bytes bs → refusal bs ≡ 0 → Good (decode bs)
accepted_good bs h e =
    let l : Laid bs (head_finals bs) (head_arcs bs) = accepted_laid h e in
    let is = laid_decode h l in
    let finals : length (decode bs).finals ≡ head_finals bs = rw is (length_places (head_finals bs) head_bytes final_bytes (final_at bs)) in
    let arcs : length (decode bs).arcs ≡ head_arcs bs = rw is (length_places (head_arcs bs) (arcs_at (head_finals bs)) 16 (arc_at bs)) in
    let states : (decode bs).states ≡ head_states bs = rw is in
    let start : (decode bs).start ≡ head_start bs = rw is in
    record { head = rw (states, start, finals, arcs) (accepted_head bs e); content = accepted_content bs e }

-- A good transducer, written

-- A number is read from what is left from a place on.
two_there : (bs xs : List ℕ) (at i : ℕ) → drop at bs ≡ xs → two bs (at + i) ≡ two xs i
two_there bs xs at i e = sym (two_drop bs at i) ∙ ap (λ (l : List ℕ). two l i) e

four_there : (bs xs : List ℕ) (at i : ℕ) → drop at bs ≡ xs → four bs (at + i) ≡ four xs i
four_there bs xs at i e = sym (four_drop bs at i) ∙ ap (λ (l : List ℕ). four l i) e

pub weight_there : (bs xs : List ℕ) (at i : ℕ) → drop at bs ≡ xs → weight_at bs (at + i) ≡ weight_at xs i
unfolding weight_at
weight_there bs xs at i e = sym (signed_four_drop bs at i) ∙ ap (λ (l : List ℕ). signed_four l i) e

word_there : (bs xs : List ℕ) (at : ℕ) → drop at bs ≡ xs → four bs at ≡ four xs 0
word_there bs xs at e = ap (λ (k : ℕ). four bs k) (sym (add-zero at)) ∙ four_there bs xs at 0 e

next_there : (bs xs : List ℕ) (at k : ℕ) → drop at bs ≡ xs → drop (at + k) bs ≡ drop k xs
next_there bs xs at k e = sym (drop-drop k at bs) ∙ ap (λ (l : List ℕ). drop k l) e

-- Each number of a final and of an arc is below what its field holds.
record FinalFits (f : Final) : Type 0 where
  state : f.state < 65536
  weight : SFits w32 f.weight

record ArcFits (a : Arc) : Type 0 where
  source : a.source < 65536
  input : a.input < 65536
  output : a.output < 65536
  target : a.target < 65536
  weight : SFits w32 a.weight

final_fits : (n : ℕ) (f : Final) → n ≤ max_states → ltb f.state n ≡ true → weight_good f.weight ≡ true → FinalFits f
final_fits n f h s w = record { state = omega (arith, ltb-true f.state n s); weight = good_fits f.weight w }

arc_fits : (n : ℕ) (a : Arc) → n ≤ max_states → ltb a.source n && ltb a.target n ≡ true → labels_good a.input a.output ≡ true →
    weight_good a.weight ≡ true → ArcFits a
arc_fits n a h s l w =
    let states : (ltb a.source n ≡ true) × (ltb a.target n ≡ true) = and-true _ _ s in
    let labels = good_short a.input a.output l in
    record {
      source = omega (arith, ltb-true a.source n states.0);
      input = omega (arith, labels.read);
      output = omega (arith, labels.written);
      target = omega (arith, ltb-true a.target n states.1);
      weight = good_fits a.weight w;
    }

-- One record that stands at a place: its word, what is read from it, and what stands behind it.
module _ (bs rest : List ℕ) (at : ℕ) (f : Final) (here : drop at bs ≡ final_record f ++ rest) where
  final_word_there : four bs at ≡ final_word
  unfolding final_record two four low
  final_word_there = word_there bs (final_record f ++ rest) at here

  final_there : FinalFits f → final_at bs at ≡ f
  unfolding final_at weight_at final_record weight_bytes signed_four signed_low two four low
  final_there fits =
      let state : two bs (at + 4) ≡ f.state = two_there bs (final_record f ++ rest) at 4 here ∙ two_low_front f.state [] fits.state in
      let weight : weight_at bs (at + 6) ≡ f.weight = weight_there bs (final_record f ++ rest) at 6 here ∙ signed_low_front f.weight [] fits.weight in
      λ i. record { state = state i; weight = weight i }

  final_next : drop (at + 10) bs ≡ rest
  unfolding final_record weight_bytes signed_low low
  final_next = next_there bs (final_record f ++ rest) at 10 here

module _ (bs rest : List ℕ) (at : ℕ) (a : Arc) (here : drop at bs ≡ arc_record a ++ rest) where
  arc_word_there : four bs at ≡ arc_word
  unfolding arc_record two four low
  arc_word_there = word_there bs (arc_record a ++ rest) at here

  arc_there : ArcFits a → arc_at bs at ≡ a
  unfolding arc_at weight_at arc_record weight_bytes signed_four signed_low two four low
  arc_there fits =
      let source : two bs (at + 4) ≡ a.source = two_there bs (arc_record a ++ rest) at 4 here ∙ two_low_front a.source [] fits.source in
      let input : two bs (at + 6) ≡ a.input = two_there bs (arc_record a ++ rest) at 6 here ∙ two_low_front a.input [] fits.input in
      let output : two bs (at + 8) ≡ a.output = two_there bs (arc_record a ++ rest) at 8 here ∙ two_low_front a.output [] fits.output in
      let target : two bs (at + 10) ≡ a.target = two_there bs (arc_record a ++ rest) at 10 here ∙ two_low_front a.target [] fits.target in
      let weight : weight_at bs (at + 12) ≡ a.weight = weight_there bs (arc_record a ++ rest) at 12 here ∙ signed_low_front a.weight [] fits.weight in
      λ k. record { source = source k; input = input k; output = output k; target = target k; weight = weight k }

  arc_next : drop (at + 16) bs ≡ rest
  unfolding arc_record weight_bytes signed_low low
  arc_next = next_there bs (arc_record a ++ rest) at 16 here

-- All finals, and all arcs, that stand from a place on.
final_words_there : (fs : List Final) (bs rest : List ℕ) (at : ℕ) → drop at bs ≡ final_records fs ++ rest →
    every (λ w. eqb w final_word) (places (length fs) at 10 (four bs)) ≡ true
unfolding places every final_records
final_words_there [] bs rest at e = refl
final_words_there (f ∷ fs) bs rest at e =
    let here : drop at bs ≡ final_record f ++ (final_records fs ++ rest) = e ∙ append_assoc (final_record f) (final_records fs) rest in
    let next : drop (at + 10) bs ≡ final_records fs ++ rest = final_next bs (final_records fs ++ rest) at f here in
    true_and _ _ (eq-eqb _ _ (final_word_there bs (final_records fs ++ rest) at f here)) (final_words_there fs bs rest (at + 10) next)

finals_there : (fs : List Final) (bs rest : List ℕ) (at n : ℕ) → n ≤ max_states → every (λ f. ltb f.state n) fs ≡ true →
    every (λ f. weight_good f.weight) fs ≡ true → drop at bs ≡ final_records fs ++ rest → places (length fs) at 10 (final_at bs) ≡ fs
unfolding places every final_records
finals_there [] bs rest at n h p q e = refl
finals_there (f ∷ fs) bs rest at n h p q e =
    let state : (ltb f.state n ≡ true) × (every (λ x. ltb x.state n) fs ≡ true) = and-true _ _ p in
    let weight : (weight_good f.weight ≡ true) × (every (λ x. weight_good x.weight) fs ≡ true) = and-true _ _ q in
    let here : drop at bs ≡ final_record f ++ (final_records fs ++ rest) = e ∙ append_assoc (final_record f) (final_records fs) rest in
    let next : drop (at + 10) bs ≡ final_records fs ++ rest = final_next bs (final_records fs ++ rest) at f here in
    rw (
      final_there bs (final_records fs ++ rest) at f here (final_fits n f h state.0 weight.0),
      finals_there fs bs rest (at + 10) n h state.1 weight.1 next,
    )

arc_words_there : (xs : List Arc) (bs : List ℕ) (at : ℕ) → drop at bs ≡ arc_records xs → every (λ w. eqb w arc_word) (places (length xs) at 16 (four bs)) ≡ true
unfolding places every arc_records
arc_words_there [] bs at e = refl
arc_words_there (a ∷ xs) bs at e =
    true_and _ _ (eq-eqb _ _ (arc_word_there bs (arc_records xs) at a e)) (arc_words_there xs bs (at + 16) (arc_next bs (arc_records xs) at a e))

arcs_there : (xs : List Arc) (bs : List ℕ) (at n : ℕ) → n ≤ max_states → every (λ a. ltb a.source n && ltb a.target n) xs ≡ true →
    every (λ a. labels_good a.input a.output) xs ≡ true → every (λ a. weight_good a.weight) xs ≡ true → drop at bs ≡ arc_records xs →
    places (length xs) at 16 (arc_at bs) ≡ xs
unfolding places every arc_records
arcs_there [] bs at n h p l q e = refl
arcs_there (a ∷ xs) bs at n h p l q e =
    let states : (ltb a.source n && ltb a.target n ≡ true) × (every (λ x. ltb x.source n && ltb x.target n) xs ≡ true) = and-true _ _ p in
    let labels : (labels_good a.input a.output ≡ true) × (every (λ x. labels_good x.input x.output) xs ≡ true) = and-true _ _ l in
    let weight : (weight_good a.weight ≡ true) × (every (λ x. weight_good x.weight) xs ≡ true) = and-true _ _ q in
    rw (
      arc_there bs (arc_records xs) at a e (arc_fits n a h states.0 labels.0 weight.0),
      arcs_there xs bs (at + 16) n h states.1 labels.1 weight.1 (arc_next bs (arc_records xs) at a e),
    )

-- Where the finals and the arcs stand in what is written.
finals_stand : (t : Transducer) → drop 12 (encode t) ≡ final_records t.finals ++ arc_records t.arcs
unfolding encode head_record low
finals_stand t = refl

arcs_stand : (t : Transducer) → drop (arcs_at (length t.finals)) (encode t) ≡ arc_records t.arcs
arcs_stand t =
    next_there (encode t) (final_records t.finals ++ arc_records t.arcs) 12 (10 * length t.finals) (finals_stand t)
    ∙ drop_at (final_records t.finals) (arc_records t.arcs) (10 * length t.finals) (length_final_records t.finals)

encode_word : (t : Transducer) → four (encode t) 0 ≡ head_word
unfolding encode head_record low four two
encode_word t = refl

pub laid_encode : (t : Transducer) → Laid (encode t) (length t.finals) (length t.arcs)
laid_encode t =
    record {
      long = length_encode t;
      head = encode_word t;
      finals = final_words_there t.finals (encode t) (arc_records t.arcs) 12 (finals_stand t);
      arcs = arc_words_there t.arcs (encode t) (arcs_at (length t.finals)) (arcs_stand t);
    }

-- The head's numbers in what is written.
record HeadIs (bs : List ℕ) (n m f s : ℕ) : Type 0 where
  states : head_states bs ≡ n
  arcs : head_arcs bs ≡ m
  finals : head_finals bs ≡ f
  start : head_start bs ≡ s

head_encode : (t : Transducer) → Good t → HeadIs (encode t) t.states (length t.arcs) (length t.finals) t.start
unfolding encode head_record head_states head_arcs head_finals head_start two low
head_encode t g =
    let r : HeadRange t.states (length t.arcs) (length t.finals) t.start = good_range t g in
    record {
      states = two_low_front t.states [] (omega arith);
      arcs = two_low_front (length t.arcs) [] (omega arith);
      finals = two_low_front (length t.finals) [] (omega arith);
      start = two_low_front t.start [] (omega arith);
    }

-- What reading finds in what is written.
finals_encode : (t : Transducer) → Good t → places (length t.finals) head_bytes final_bytes (final_at (encode t)) ≡ t.finals
finals_encode t g =
    let p : Content t = good_tests t g in
    finals_there t.finals (encode t) (arc_records t.arcs) 12 t.states (good_range t g).states (finals_inside t p) (finals_light t p) (finals_stand t)

arcs_encode : (t : Transducer) → Good t → places (length t.arcs) (arcs_at (length t.finals)) 16 (arc_at (encode t)) ≡ t.arcs
unfolding all_labels_good
arcs_encode t g =
    let p : Content t = good_tests t g in
    arcs_there t.arcs (encode t) (arcs_at (length t.finals)) t.states (good_range t g).states (arcs_inside t p) p.labels (arcs_light t p)
    (arcs_stand t)

pub decode_encode : (t : Transducer) → Good t → decode (encode t) ≡ t
decode_encode t g =
    let h = head_encode t g in
    laid_decode (bytes_encode t) (laid_encode t)
    ∙ rw (h.states, h.start, finals_encode t g, arcs_encode t g)

pub refusal_encode : (t : Transducer) → Good t → refusal (encode t) ≡ 0
refusal_encode t g =
    let h = head_encode t g in
    let laid : Laid (encode t) (head_finals (encode t)) (head_arcs (encode t)) = rw (h.finals, h.arcs) (laid_encode t) in
    let good : head_good (head_states (encode t)) (head_arcs (encode t)) (head_finals (encode t)) (head_start (encode t)) ≡ true =
    rw (h.states, h.arcs, h.finals, h.start) g.head in
    laid_refusal (bytes_encode t) laid good ∙ ap content_refusal (decode_encode t g) ∙ g.content
