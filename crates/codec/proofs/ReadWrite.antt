-- Reading and writing undo each other (specs/RoundTrip).
--     written_same    what reading left, written, is the bytes that were read
--     read_same       what writing wrote, read, is the numbers and the runs that were written
-- Both rest on the transducer in the runs: `given_left` finds in the buffers that reading leaves the transducer that was read, and
-- `fields_given` and its like find in a given transducer the runs that gave it. Assumes nothing.
use mathlib.Core.Path.{◌≡◌, refl, sym, ap, ◌∙◌}
use mathlib.Core.Bool.{false, ◌||◌, cond}
use mathlib.Core.List.{List, [], ◌∷◌, map}
use Prim.Native.Nat.{ℕ, zero, suc, ◌+◌, ◌*◌, ◌≤◌}
use native.Mathlib.Numerals.{add-one}
use native.Mathlib.Omega.{arith}
use borrow.Author.Tests.{ltb-false, le-ltb}
use lib.Dec.{ltb}
use lib.ListN.{length, get_or, take, get_or-map, length-map}
use lib.Seq.{take-length}
use Rattle.wire.specs.Bytes.{places, filled, signed_filled}
use Rattle.wire.proofs.Places.{length_places, places_same, map_places, get_or_padded, get_or_filled, length_padded, length_filled, take_filled}
use Rattle.wire.proofs.Bool.{passed, or_false, not_raised}
use Rattle.transducer.specs.Entry.{or_else}
use Rattle.transducer.specs.declared.Arc.{Arc}
use Rattle.transducer.specs.declared.Final.{Final}
use Rattle.transducer.specs.Answer.{Header}
use Rattle.transducer.specs.Answer.{Written}
use Rattle.transducer.specs.Format.{max_fields, Transducer, Good, max_states, max_arcs, max_bytes, decode, refusal, head_good, content_refusal}
use Rattle.transducer.specs.Encode.{encode}
use Rattle.transducer.specs.Path.{no_arc}
use Rattle.transducer.specs.Weight.{Weight, no_weight}
use Rattle.codec.specs.Entry.{ReadSays, read_refusal, read_room, WriteSays, write_refusal, too_few, given, final_of, arc_of, arc_fields}
use Rattle.codec.specs.RoundTrip.{ReadThenWritten, SameBytes, WrittenThenRead, SameTransducer}
use Rattle.transducer.proofs.Answers.{or_else_none, none_or_else, unless_none, left_in_none, weights_left_in_none}
use Rattle.codec.proofs.Copy.{places_shift, length_arc_fields}
use Rattle.transducer.proofs.Good.{HeadRange}
use Rattle.codec.proofs.ReadSays.{long_enough}
use Rattle.transducer.proofs.RoundTrip.{encode_decode, accepted_good, decode_encode, refusal_encode, good_range}
use Rattle.codec.proofs.WriteSays.{Enough, not_too_few}

-- Lists made place by place

-- The first elements of a list.
places_get_or : {A : Type 0} (k : ℕ) (xs : List A) (d : A) → k ≤ length xs → places k 0 1 (λ i. get_or xs i d) ≡ take k xs
unfolding places
places_get_or {A} zero xs d h = refl
places_get_or {A} (suc k) [] d h = absurd (omega arith)
places_get_or {A} (suc k) (x ∷ xs) d h =
    let f : ℕ → A = λ i. get_or (x ∷ xs) i d in
    let behind : places k 1 1 f ≡ places k 0 1 (λ i. get_or xs i d) =
    places_shift k 0 1 1 f ∙ places_same k 0 1 (λ i. f (i + 1)) (λ i. get_or xs i d) (λ i l. ap f (add-one (0 + 1 * i))) in
    ap (λ (l : List _). x ∷ l) (behind ∙ places_get_or k xs d (omega arith))

-- Where each place gives the element of a list, the list.
places_are : {A : Type 0} (xs : List A) (d : A) (f : ℕ → A) → ((i : ℕ) → f i ≡ get_or xs i d) → places (length xs) 0 1 f ≡ xs
places_are xs d f h =
    places_same (length xs) 0 1 f (λ i. get_or xs i d) (λ i l. h (0 + 1 * i)) ∙ places_get_or (length xs) xs d (omega arith) ∙ take-length xs

-- One arc further in the runs.
arc_of_next : (x₀ x₁ x₂ x₃ : ℕ) (w : Weight) (c : List ℕ) (d : List Weight) (i : ℕ) → arc_of (x₀ ∷ x₁ ∷ x₂ ∷ x₃ ∷ c) (w ∷ d) (suc i) ≡ arc_of c d i
unfolding arc_of
arc_of_next x₀ x₁ x₂ x₃ w c d i =
    let e₀ : 4 * suc i ≡ suc (suc (suc (suc (4 * i)))) = omega arith in
    let e₁ : 4 * suc i + 1 ≡ suc (suc (suc (suc (4 * i + 1)))) = omega arith in
    let e₂ : 4 * suc i + 2 ≡ suc (suc (suc (suc (4 * i + 2)))) = omega arith in
    let e₃ : 4 * suc i + 3 ≡ suc (suc (suc (suc (4 * i + 3)))) = omega arith in
    rw (e₁, e₂, e₃, e₀)

-- From a transducer to the runs and back

no_final : Final
no_final = record { state = 0; weight = no_weight }

final_of_runs : (fs : List Final) (i : ℕ) → final_of (map (λ f. f.state) fs) (map (λ f. f.weight) fs) i ≡ get_or fs i no_final
unfolding final_of no_final
final_of_runs fs i = rw (get_or-map (λ (f : Final). f.state) fs i no_final, get_or-map (λ (f : Final). f.weight) fs i no_final)

arc_of_runs : (xs : List Arc) (i : ℕ) → arc_of (arc_fields xs) (map (λ a. a.weight) xs) i ≡ get_or xs i no_arc
unfolding arc_of arc_fields
arc_of_runs [] i = refl
arc_of_runs (a ∷ xs) zero = refl
arc_of_runs (a ∷ xs) (suc i) =
    arc_of_next _ _ _ _ a.weight (arc_fields xs) (map (λ x. x.weight) xs) i ∙ arc_of_runs xs i

-- Zeros behind the runs are not looked at.
final_of_filled : (a b : ℕ) (xs : List ℕ) (ys : List Weight) (i : ℕ) → final_of (filled a xs) (signed_filled b ys) i ≡ final_of xs ys i
unfolding final_of signed_filled
final_of_filled a b xs ys i = rw (get_or_filled a xs i, get_or_padded no_weight b ys i)

arc_of_filled : (c d : ℕ) (xs : List ℕ) (ys : List Weight) (i : ℕ) → arc_of (filled c xs) (signed_filled d ys) i ≡ arc_of xs ys i
unfolding arc_of signed_filled
arc_of_filled c d xs ys i =
    rw (get_or_filled c xs (4 * i), get_or_filled c xs (4 * i + 1), get_or_filled c xs (4 * i + 2), get_or_filled c xs (4 * i + 3), get_or_padded no_weight d ys i)

long_weights : (room : ℕ) (xs : List Weight) → length xs ≤ room → length (signed_filled room xs) ≡ room
unfolding signed_filled
long_weights room xs h = length_padded no_weight room xs h

-- A transducer's four runs.
abbrev states_of : Transducer → List ℕ
states_of t = map (λ f. f.state) t.finals

abbrev weights_of : Transducer → List Weight
weights_of t = map (λ f. f.weight) t.finals

abbrev fields_of : Transducer → List ℕ
fields_of t = arc_fields t.arcs

abbrev arc_weights_of : Transducer → List Weight
arc_weights_of t = map (λ x. x.weight) t.arcs

module _ (t : Transducer) (a b c d : ℕ) where
  finals_left : places (length t.finals) 0 1 (final_of (filled a (states_of t)) (signed_filled b (weights_of t))) ≡ t.finals
  finals_left =
      places_are t.finals no_final (final_of (filled a (states_of t)) (signed_filled b (weights_of t)))
      (λ i. final_of_filled a b (states_of t) (weights_of t) i ∙ final_of_runs t.finals i)

  arcs_left : places (length t.arcs) 0 1 (arc_of (filled c (fields_of t)) (signed_filled d (arc_weights_of t))) ≡ t.arcs
  arcs_left =
      places_are t.arcs no_arc (arc_of (filled c (fields_of t)) (signed_filled d (arc_weights_of t)))
      (λ i. arc_of_filled c d (fields_of t) (arc_weights_of t) i ∙ arc_of_runs t.arcs i)

  -- The transducer in what reading leaves.
  given_left : given t.states (length t.arcs) (length t.finals) t.start (filled a (states_of t))
      (signed_filled b (weights_of t)) (filled c (fields_of t)) (signed_filled d (arc_weights_of t))
      ≡ t
  unfolding given
  given_left = λ i. record { states = t.states; start = t.start; finals = finals_left i; arcs = arcs_left i }

-- From the runs to a transducer and back

states_given : (f : ℕ) (a : List ℕ) (b : List Weight) → f ≤ length a → map (λ x. x.state) (places f 0 1 (final_of a b)) ≡ take f a
unfolding final_of
states_given f a b h = map_places (λ (x : Final). x.state) f 0 1 (final_of a b) ∙ places_get_or f a 0 h

weights_given : (f : ℕ) (a : List ℕ) (b : List Weight) → f ≤ length b → map (λ x. x.weight) (places f 0 1 (final_of a b)) ≡ take f b
unfolding final_of
weights_given f a b h = map_places (λ (x : Final). x.weight) f 0 1 (final_of a b) ∙ places_get_or f b no_weight h

arc_weights_given : (m : ℕ) (c : List ℕ) (d : List Weight) → m ≤ length d → map (λ x. x.weight) (places m 0 1 (arc_of c d)) ≡ take m d
unfolding arc_of
arc_weights_given m c d h = map_places (λ (x : Arc). x.weight) m 0 1 (arc_of c d) ∙ places_get_or m d no_weight h

fields_given : (m : ℕ) (c : List ℕ) (d : List Weight) → 4 * m ≤ length c → m ≤ length d → arc_fields (places m 0 1 (arc_of c d)) ≡ take (4 * m) c
unfolding places arc_fields arc_of
fields_given zero c d h l = refl
fields_given (suc m) (x₀ ∷ x₁ ∷ x₂ ∷ x₃ ∷ c) (w ∷ d) h l = next m x₀ x₁ x₂ x₃ w c d (fields_given m c d (omega arith) (omega arith))
  where
    next : (m x₀ x₁ x₂ x₃ : ℕ) (w : Weight) (c : List ℕ) (d : List Weight) → arc_fields (places m 0 1 (arc_of c d)) ≡ take (4 * m) c →
        arc_fields (places (suc m) 0 1 (arc_of (x₀ ∷ x₁ ∷ x₂ ∷ x₃ ∷ c) (w ∷ d))) ≡ take (4 * suc m) (x₀ ∷ x₁ ∷ x₂ ∷ x₃ ∷ c)
    next m x₀ x₁ x₂ x₃ w c d more =
        let f = arc_of (x₀ ∷ x₁ ∷ x₂ ∷ x₃ ∷ c) (w ∷ d) in
        let arcs : places m 1 1 f ≡ places m 0 1 (arc_of c d) =
        places_shift m 0 1 1 f
        ∙ places_same m 0 1 (λ i. f (i + 1)) (arc_of c d) (λ i l. ap f (add-one (0 + 1 * i)) ∙ arc_of_next x₀ x₁ x₂ x₃ w c d (0 + 1 * i)) in
        let four : 4 * suc m ≡ suc (suc (suc (suc (4 * m)))) = omega arith in
        rw (four, arcs, more)
fields_given (suc m) [] d h l = absurd (omega arith)
fields_given (suc m) (x₀ ∷ []) d h l = absurd (omega arith)
fields_given (suc m) (x₀ ∷ x₁ ∷ []) d h l = absurd (omega arith)
fields_given (suc m) (x₀ ∷ x₁ ∷ x₂ ∷ []) d h l = absurd (omega arith)
fields_given (suc m) (x₀ ∷ x₁ ∷ x₂ ∷ x₃ ∷ c) [] h l = absurd (omega arith)

-- What the refusals say that are 0

-- Buffers that are long enough for reading.
record Room (a b c d : ℕ) : Type 0 where
  states : max_states ≤ a
  weights : max_states ≤ b
  fields : 4 * max_arcs ≤ c
  arc_weights : max_arcs ≤ d

read_room_none : (a b c d : ℕ) → read_room a b c d ≡ 0 → Room a b c d
unfolding read_room
read_room_none a b c d h =
    let p = (not_raised (ltb a max_states || (ltb b max_states || (ltb c max_fields || ltb d max_arcs))) 9 0 h).0 in
    let q = or_false (ltb a max_states) (ltb b max_states || (ltb c max_fields || ltb d max_arcs)) p in
    let r = or_false (ltb b max_states) (ltb c max_fields || ltb d max_arcs) q.1 in
    let s = or_false (ltb c max_fields) (ltb d max_arcs) r.1 in
    record {
      states = ltb-false a max_states q.0;
      weights = ltb-false b max_states r.0;
      fields = ltb-false c max_fields s.0;
      arc_weights = ltb-false d max_arcs s.1;
    }

too_few_none : (f m a b c d : ℕ) → too_few f m a b c d ≡ false → Enough f m a b c d
unfolding too_few
too_few_none f m a b c d h =
    let q = or_false (ltb a f) (ltb b f || (ltb c (4 * m) || ltb d m)) h in
    let r = or_false (ltb b f) (ltb c (4 * m) || ltb d m) q.1 in
    let s = or_false (ltb c (4 * m)) (ltb d m) r.1 in
    record { states = ltb-false a f q.0; weights = ltb-false b f r.0; fields = ltb-false c (4 * m) s.0; arc_weights = ltb-false d m s.1 }

-- Read, then written

module _ (t : Transducer) (good : Good t) (a b c d : ℕ) (room : Room a b c d) where
  few : HeadRange t.states (length t.arcs) (length t.finals) t.start
  few = good_range t good

  runs_enough : Enough (length t.finals) (length t.arcs) (length (filled a (states_of t)))
      (length (signed_filled b (weights_of t))) (length (filled c (fields_of t))) (length (signed_filled d (arc_weights_of t)))
  runs_enough =
      let states : length (states_of t) ≡ length t.finals = length-map t.finals (λ f. f.state) in
      let weights : length (weights_of t) ≡ length t.finals = length-map t.finals (λ f. f.weight) in
      let fields : length (fields_of t) ≡ 4 * length t.arcs = length_arc_fields t.arcs in
      let arc_weights : length (arc_weights_of t) ≡ length t.arcs = length-map t.arcs (λ x. x.weight) in
      omega (
        arith,
        few,
        room,
        length_filled a (states_of t) (omega (arith, few, room)),
        long_weights b (weights_of t) (omega (arith, few, room)),
        length_filled c (fields_of t) (omega (arith, few, room)),
        long_weights d (arc_weights_of t) (omega (arith, few, room)),
      )

  -- What reading leaves is accepted by writing.
  left_accepted : (out : ℕ) → max_bytes ≤ out → write_refusal t.states (length t.arcs) (length t.finals) t.start
      (filled a (states_of t)) (signed_filled b (weights_of t)) (filled c (fields_of t))
      (signed_filled d (arc_weights_of t)) out ≡ 0
  unfolding write_refusal or_else
  left_accepted out h = rw (good.head, not_too_few _ _ _ _ _ _ runs_enough, given_left t a b c d, good.content, le-ltb out max_bytes h)

-- Written from what stands in the buffers, a transducer is told at its length, zeros behind it.
record WrittenWell (t : Transducer) (r : Written) (out out' : List ℕ) : Type 0 where
  accepted : r.refusal ≡ 0
  len : r.len ≡ length (encode t)
  bytes : out' ≡ filled (length out) (encode t)

written_well : {t t' : Transducer} {number : ℕ} {r : Written} {out out' : List ℕ} → WriteSays t' number r out out' → number ≡ 0 → t' ≡ t →
    WrittenWell t r out out'
written_well {t} {t'} {number} {r} {out} {out'} says none is =
    record {
      accepted = says.refusal_is ∙ none;
      len = says.len_is ∙ unless_none number (length (encode t')) none ∙ ap (λ (u : Transducer). length (encode u)) is;
      bytes = says.bytes ∙ left_in_none number out (encode t') none ∙ ap (λ (u : Transducer). filled (length out) (encode u)) is;
    }

-- Bytes read, the transducer in them is told and left in the buffers, zeros behind it.
record ReadWell (t : Transducer) (r : Header) (a a' : List ℕ) (b b' : List Weight) (c c' : List ℕ) (d d' : List Weight) : Type 0 where
  accepted : r.refusal ≡ 0
  states : r.states ≡ t.states
  arcs : r.arcs ≡ length t.arcs
  finals : r.finals ≡ length t.finals
  start : r.start ≡ t.start
  final_states : a' ≡ filled (length a) (states_of t)
  final_weights : b' ≡ signed_filled (length b) (weights_of t)
  fields : c' ≡ filled (length c) (fields_of t)
  arc_weights : d' ≡ signed_filled (length d) (arc_weights_of t)

read_well : {t : Transducer} {bs : List ℕ} {number : ℕ} {r : Header} {a a' : List ℕ} {b b' : List Weight} {c c' : List ℕ} {d d' : List Weight} →
    ReadSays bs number r a a' b b' c c' d d' → number ≡ 0 → decode bs ≡ t → ReadWell t r a a' b b' c c' d d'
read_well {number = number} {a = a} {b = b} {c = c} {d = d} says none is =
    record {
      accepted = says.refusal_is ∙ none;
      states = says.states_is ∙ unless_none number _ none ∙ ap (λ (u : Transducer). u.states) is;
      arcs = says.arcs_is ∙ unless_none number _ none ∙ ap (λ (u : Transducer). length u.arcs) is;
      finals = says.finals_is ∙ unless_none number _ none ∙ ap (λ (u : Transducer). length u.finals) is;
      start = says.start_is ∙ unless_none number _ none ∙ ap (λ (u : Transducer). u.start) is;
      final_states = says.final_states ∙ left_in_none number a _ none ∙ ap (λ (u : Transducer). filled (length a) (states_of u)) is;
      final_weights = says.final_weights ∙ weights_left_in_none number b _ none ∙ ap (λ (u : Transducer). signed_filled (length b) (weights_of u)) is;
      fields = says.fields ∙ left_in_none number c _ none ∙ ap (λ (u : Transducer). filled (length c) (fields_of u)) is;
      arc_weights = says.arc_weights ∙ weights_left_in_none number d _ none ∙ ap (λ (u : Transducer). signed_filled (length d) (arc_weights_of u)) is;
    }

-- What reading says of a transducer, handed to writing.
written_back : {t : Transducer} {r : Header} {a a' : List ℕ} {b b' : List Weight} {c c' : List ℕ} {d d' : List Weight} {w : Written} {out out' : List ℕ}
    → Good t →
    Room (length a) (length b) (length c) (length d) → ReadWell t r a a' b b' c c' d d' → max_bytes ≤ length out →
    WriteSays (given r.states r.arcs r.finals r.start a' b' c' d')
    (write_refusal r.states r.arcs r.finals r.start a' b' c' d' (length out)) w out out' → WrittenWell t w out out'
written_back {t} {r} {a} {a'} {b} {b'} {c} {c'} {d} {d'} {w} {out} {out'} good room read long says =
    let number : write_refusal r.states r.arcs r.finals r.start a' b' c' d' (length out) ≡ 0 =
    rw (read.states, read.arcs, read.finals, read.start, read.final_states, read.final_weights, read.fields, read.arc_weights)
    (left_accepted t good (length a) (length b) (length c) (length d) room (length out) long) in
    let is : given r.states r.arcs r.finals r.start a' b' c' d' ≡ t =
    rw (read.states, read.arcs, read.finals, read.start, read.final_states, read.final_weights, read.fields, read.arc_weights)
    (given_left t (length a) (length b) (length c) (length d)) in
    written_well says number is

pub written_same : (c : ReadThenWritten) → SameBytes c
unfolding read_refusal
written_same c =
    let none : or_else (refusal c.bytes)
    (read_room (length c.lent.final_states) (length c.lent.final_weights) (length c.lent.fields) (length c.lent.arc_weights)) ≡ 0 =
    sym c.read.refusal_is ∙ c.read_well in
    let both = or_else_none (refusal c.bytes)
    (read_room (length c.lent.final_states) (length c.lent.final_weights) (length c.lent.fields) (length c.lent.arc_weights)) none in
    let room = read_room_none _ _ _ _ both.1 in
    let good : Good (decode c.bytes) = accepted_good c.bytes c.are_bytes both.0 in
    let back : encode (decode c.bytes) ≡ c.bytes = encode_decode c.bytes c.are_bytes both.0 in
    let well : WrittenWell (decode c.bytes) c.writing c.out c.out_left =
    written_back good room (read_well c.read none refl) c.room c.written in
    record {
      accepted = well.accepted;
      len = well.len ∙ ap length back;
      bytes = well.bytes ∙ ap (λ (l : List ℕ). filled (length c.out) l) back;
    }

-- Written, then read

-- What writing that was not refused says of the numbers and the runs.
record GivenWell (n m f start : ℕ) (a : List ℕ) (b : List Weight) (c : List ℕ) (d : List Weight) : Type 0 where
  good : Good (given n m f start a b c d)
  enough : Enough f m (length a) (length b) (length c) (length d)

given_well : (n m f start : ℕ) (a : List ℕ) (b : List Weight) (c : List ℕ) (d : List Weight) (room : ℕ) → write_refusal n m f start a b c d room ≡ 0
    → GivenWell n m f start a b c d
unfolding write_refusal given
given_well n m f start a b c d room h =
    let t = given n m f start a b c d in
    let content = or_else (content_refusal t) (cond (ltb room max_bytes) 10 0) in
    let p = passed (head_good n m f start) 2 (cond (too_few f m (length a) (length b) (length c) (length d)) 4 content) h in
    let q = not_raised (too_few f m (length a) (length b) (length c) (length d)) 3 content p.1 in
    let r = or_else_none (content_refusal t) (cond (ltb room max_bytes) 10 0) q.1 in
    record {
      good = record { head = rw (length_places m 0 1 (arc_of c d), length_places f 0 1 (final_of a b)) p.0; content = r.0 };
      enough = too_few_none f m (length a) (length b) (length c) (length d) q.0;
    }

-- A transducer's bytes, handed to reading.
read_back : {t : Transducer} {bs : List ℕ} {r : Header} {a a' : List ℕ} {b b' : List Weight} {c c' : List ℕ} {d d' : List Weight} → Good t → bs ≡ encode t →
    Room (length a) (length b) (length c) (length d) →
    ReadSays bs (read_refusal bs (length a) (length b) (length c) (length d)) r a a' b b' c c' d d' → ReadWell t r a a' b b' c c' d d'
unfolding read_refusal
read_back {t} {bs} {r} {a} {a'} {b} {b'} {c} {c'} {d} {d'} good e room says =
    let none : or_else (refusal bs) (read_room (length a) (length b) (length c) (length d)) ≡ 0 =
    none_or_else (refusal bs) (read_room (length a) (length b) (length c) (length d)) (ap refusal e ∙ refusal_encode t good)
    ∙ long_enough (length a) (length b) (length c) (length d) room.states room.weights room.fields room.arc_weights in
    read_well says none (ap decode e ∙ decode_encode t good)

pub read_same : (c : WrittenThenRead) → SameTransducer c
unfolding given
read_same c =
    let a = c.runs.final_states in
    let b = c.runs.final_weights in
    let e = c.runs.fields in
    let g = c.runs.arc_weights in
    let t = given c.states c.arcs c.finals c.start a b e g in
    let none : write_refusal c.states c.arcs c.finals c.start a b e g (length c.out) ≡ 0 =
    sym c.written.refusal_is ∙ c.written_well in
    let h : GivenWell c.states c.arcs c.finals c.start a b e g =
    given_well c.states c.arcs c.finals c.start a b e g (length c.out) none in
    let wrote : WrittenWell t c.writing c.out c.out_left = written_well c.written none refl in
    let bytes : take c.writing.len c.out_left ≡ encode t = rw (wrote.len, wrote.bytes) (take_filled (length c.out) (encode t)) in
    let room : Room (length c.lent.final_states) (length c.lent.final_weights) (length c.lent.fields) (length c.lent.arc_weights) =
    record { states = c.final_states_room; weights = c.final_weights_room; fields = c.fields_room; arc_weights = c.arc_weights_room } in
    let r = read_back h.good bytes room c.read in
    record {
      accepted = r.accepted;
      states = r.states;
      arcs = r.arcs ∙ length_places c.arcs 0 1 (arc_of e g);
      finals = r.finals ∙ length_places c.finals 0 1 (final_of a b);
      start = r.start;
      final_states = r.final_states ∙ ap (λ (l : List ℕ). filled (length c.lent.final_states) l) (states_given c.finals a b h.enough.states);
      final_weights =
          r.final_weights
          ∙ ap (λ (l : List Weight). signed_filled (length c.lent.final_weights) l) (weights_given c.finals a b h.enough.weights);
      fields =
          r.fields
          ∙ ap (λ (l : List ℕ). filled (length c.lent.fields) l) (fields_given c.arcs e g h.enough.fields h.enough.arc_weights);
      arc_weights =
          r.arc_weights
          ∙ ap (λ (l : List Weight). signed_filled (length c.lent.arc_weights) l) (arc_weights_given c.arcs e g h.enough.arc_weights);
    }
