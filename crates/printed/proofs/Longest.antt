-- A transducer whose listing is as long as any: 98 like arcs and then a line of 1,022, each of the least weight and writing a label of five digits.
-- It has 98 accepting paths, all of 1,023 arcs. Assumes nothing.
use mathlib.Core.Path.{◌≡◌, refl, sym, ap, subst, ◌∙◌}
use mathlib.Core.Bool.{Bool, true, false, ◌||◌}
use mathlib.Core.List.{List, [], ◌∷◌, ◌++◌}
use mathlib.Core.List.{Memᴰ as Among}
use Prim.Native.Nat.{ℕ, zero, suc, ◌+◌, ◌*◌, ◌-◌, ◌/◌, ◌≤◌, ◌<◌, min}
use native.Mathlib.Omega.{arith}
use borrow.Author.Tests.{eqb-true, ltb-true, ltb-false}
use lib.Dec.{eqb, ltb}
use lib.ListN.{length, get_or, replicate, length-append}
use Rattle.wire.specs.Bytes.{Bytes, places, every}
use Rattle.wire.proofs.Places.{length_places, get_or_places}
use Rattle.transducer.specs.declared.Arc.{Arc}
use Rattle.transducer.specs.declared.Final.{Final}
use Rattle.transducer.specs.Format.{Transducer, Good, min_weight, refusal, decode, head_good, content_refusal, first_of, states_good}
use Rattle.transducer.specs.Format.{order_good, finals_rise, sources_stay, all_labels_good, labels_good, weights_good, weight_good}
use Rattle.transducer.specs.Encode.{encode}
use Rattle.transducer.specs.Path.{arc, no_arc, is_final, final_weight, ends, accepts, written_by, non_empty, arcs_cost, path_cost}
use Rattle.transducer.proofs.Members.{Distinct, get_or_in, place_of, places_distinct, no_longer}
use Rattle.transducer.proofs.Runs.{Accepting, AcceptingBy, Within, accepts_accepting, accepting_accepts}
use Rattle.transducer.proofs.Runs.{accepting_nil, nil_accepting, accepting_cons, cons_accepting}
use Rattle.transducer.proofs.RoundTrip.{bytes_encode, decode_encode, refusal_encode}
use Rattle.transducer.specs.Weight.{rebate, plus}
use Rattle.transducer.proofs.Weights.{rebate_plus}
use Rattle.paths.specs.Count.{paths, endless, path_count, nth_path}
use Rattle.paths.proofs.Endless.{mem_paths, paths_distinct, short_finite, not_endless_listed}
use Rattle.paths.proofs.NthPath.{nth_path_accepts}
use Rattle.listing.specs.Text.{decimal, cost_text, readings_word, labels_text, line_of, lines, counted_text, listing_text, least_room}
use Rattle.listing.proofs.Decimal.{length_decimal_small, length_decimal_large}
use Rattle.listing.proofs.Short.{cost_below, length_line}
use Rattle.listing.proofs.NthLine.{listing_finite, counted_few}

-- Lengths of numbers and of like labels.

five_long : length (decimal 65534) ≡ 5
five_long =
    let a : length (decimal 65534) ≡ length (decimal 6553) + 1 = length_decimal_large 65534 (omega arith) in
    let b : length (decimal 6553) ≡ length (decimal 655) + 1 = length_decimal_large 6553 (omega arith) in
    let c : length (decimal 655) ≡ length (decimal 65) + 1 = length_decimal_large 655 (omega arith) in
    let d : length (decimal 65) ≡ length (decimal 6) + 1 = length_decimal_large 65 (omega arith) in
    let e : length (decimal 6) ≡ 1 = length_decimal_small 6 (omega arith) in
    omega arith

ten_long : length (decimal 1024000000) ≡ 10
ten_long =
    let a : length (decimal 1024000000) ≡ length (decimal 102400000) + 1 = length_decimal_large 1024000000 (omega arith) in
    let b : length (decimal 102400000) ≡ length (decimal 10240000) + 1 = length_decimal_large 102400000 (omega arith) in
    let c : length (decimal 10240000) ≡ length (decimal 1024000) + 1 = length_decimal_large 10240000 (omega arith) in
    let d : length (decimal 1024000) ≡ length (decimal 102400) + 1 = length_decimal_large 1024000 (omega arith) in
    let e : length (decimal 102400) ≡ length (decimal 10240) + 1 = length_decimal_large 102400 (omega arith) in
    let f : length (decimal 10240) ≡ length (decimal 1024) + 1 = length_decimal_large 10240 (omega arith) in
    let g : length (decimal 1024) ≡ length (decimal 102) + 1 = length_decimal_large 1024 (omega arith) in
    let h : length (decimal 102) ≡ length (decimal 10) + 1 = length_decimal_large 102 (omega arith) in
    let i : length (decimal 10) ≡ length (decimal 1) + 1 = length_decimal_large 10 (omega arith) in
    let j : length (decimal 1) ≡ 1 = length_decimal_small 1 (omega arith) in
    omega arith

cost_long : length (cost_text (rebate 1024000000)) ≡ 11
cost_long = rw (cost_below (rebate 1024000000) refl) (ap suc ten_long)

-- A weight more.
one_more : (n : ℕ) → plus min_weight (rebate (1000000 * n)) ≡ rebate (1000000 * suc n)
one_more n =
    let all : 1000000 + 1000000 * n ≡ 1000000 * suc n = omega arith in
    rebate_plus 1000000 (1000000 * n) ∙ ap rebate all

two_long : (n : ℕ) → 10 ≤ n → n < 100 → length (decimal n) ≡ 2
two_long n a b = omega (arith, length_decimal_large n a, length_decimal_small (n / 10) (omega arith))

labels_long : (n : ℕ) → length (labels_text (replicate n 65534)) ≡ 6 * n
unfolding labels_text
labels_long zero = refl
labels_long (suc n) =
    omega (arith, length-append (decimal 65534) (labels_text (replicate n 65534)), five_long, labels_long n)

-- Its arcs by number: the first 98 leave state 0, the others a state each.
abbrev arc_at : ℕ → Arc
arc_at i = record { source = i - 97; input = 0; output = 65534; target = i - 97 + 1; weight = min_weight }

abbrev last_state : Final
last_state = record { state = 1023; weight = min_weight }

record Line (t : Transducer) : Type 0 where
  states_are : t.states ≡ 1024
  start_is : t.start ≡ 0
  finals_are : t.finals ≡ last_state ∷ []
  arcs_many : length t.arcs ≡ 1120
  arc_is : (i : ℕ) → i < 1120 → arc t i ≡ arc_at i

unfoldable same : ℕ → ℕ
same x = x

-- The arcs from state 1 on.
unfoldable tail : List ℕ
tail = places 1022 98 1 same

module _ (t : Transducer) (shape : Line t) where
  source_is : (i : ℕ) → i < 1120 → (arc t i).source ≡ i - 97
  source_is i h = ap (λ (a : Arc). a.source) (shape.arc_is i h)

  target_is : (i s : ℕ) → i < 1120 → i - 97 ≡ s → (arc t i).target ≡ s + 1
  target_is i s h e = ap (λ (a : Arc). a.target) (shape.arc_is i h) ∙ ap (λ (x : ℕ). x + 1) e

  final_at : (s : ℕ) → is_final t.finals s ≡ true → s ≡ 1023
  unfolding is_final
  final_at s h = sym (eqb-true 1023 s (on (eqb 1023 s) (rw shape.finals_are at h)))
    where
      on : (b : Bool) → b || false ≡ true → b ≡ true
      on true e = refl
      on false e = e

  at_final : (s : ℕ) → s ≡ 1023 → is_final t.finals s ≡ true
  unfolding is_final
  at_final s e = rw (shape.finals_are, e)

  weight_at : (s : ℕ) → s ≡ 1023 → final_weight t.finals s ≡ min_weight
  unfolding final_weight
  weight_at s e = rw (shape.finals_are, e)

  record By (s i : ℕ) (p : List ℕ) : Type 0 where
    below : i < 1120
    from : i - 97 ≡ s
    rest : Accepting t (s + 1) p

  by : (s i : ℕ) (p : List ℕ) → Accepting t s (i ∷ p) → By s i p
  by s i p h =
      let r : AcceptingBy t s i p = accepting_cons t s i p h in
      let b : i < 1120 = omega (arith, r.below, shape.arcs_many) in
      let f : i - 97 ≡ s = sym (source_is i b) ∙ r.leaves in
      record { below = b; from = f; rest = rw (target_is i s b f) at r.rest }

  -- What an accepting path has.

  level : (s : ℕ) (p : List ℕ) → Accepting t s p → s + length p ≡ 1023
  level s [] h = omega (arith, final_at s (accepting_nil t s h))
  level s (i ∷ p) h = omega (arith, level (s + 1) p (by s i p h).rest)

  costs : (s : ℕ) (p : List ℕ) → Accepting t s p → arcs_cost t p ≡ rebate (1000000 * length p)
  unfolding arcs_cost
  costs s [] h = refl
  costs s (i ∷ p) h =
      let b : By s i p = by s i p h in
      let here : (arc t i).weight ≡ min_weight = ap (λ (a : Arc). a.weight) (shape.arc_is i b.below) in
      rw (here, costs (s + 1) p b.rest) (one_more (length p))

  writes : (s : ℕ) (p : List ℕ) → Accepting t s p → written_by t p ≡ replicate (length p) 65534
  unfolding written_by non_empty
  writes s [] h = refl
  writes s (i ∷ p) h =
      let b : By s i p = by s i p h in
      let here : (arc t i).output ≡ 65534 = ap (λ (a : Arc). a.output) (shape.arc_is i b.below) in
      rw (here, writes (s + 1) p b.rest)

  -- From state 1 on there is one path.

  unique : (s : ℕ) (p : List ℕ) → Accepting t s p → 1 ≤ s → p ≡ places (1023 - s) (97 + s) 1 same
  unfolding places same
  unique s [] h l =
      let e : 1023 - s ≡ 0 = omega (arith, final_at s (accepting_nil t s h)) in
      rw e
  unique s (i ∷ p) h l =
      let b : By s i p = by s i p h in
      let here : i ≡ 97 + s = omega (arith, b.from) in
      let n : suc (1023 - (s + 1)) ≡ 1023 - s = omega (arith, level s (i ∷ p) h) in
      let k : 97 + (s + 1) ≡ 97 + s + 1 = omega arith in
      let rest : p ≡ places (1023 - (s + 1)) (97 + s + 1) 1 same =
      unique (s + 1) p b.rest (omega arith) ∙ ap (λ (x : ℕ). places (1023 - (s + 1)) x 1 same) k in
      ap (λ (j : ℕ). j ∷ p) here ∙ (ap (λ (q : List ℕ). (97 + s) ∷ q) rest ∙ ap (λ (x : ℕ). places x (97 + s) 1 same) n)

  there : (n s : ℕ) → s + n ≡ 1023 → 1 ≤ s → Accepting t s (places n (97 + s) 1 same)
  unfolding places same
  there zero s e l = nil_accepting t s (at_final s (omega arith))
  there (suc n) s e l =
      let b : 97 + s < 1120 = omega arith in
      let f : 97 + s - 97 ≡ s = omega arith in
      let k : 97 + (s + 1) ≡ 97 + s + 1 = omega arith in
      let rest : Accepting t (s + 1) (places n (97 + s + 1) 1 same) =
      rw k at (there n (s + 1) (omega arith) (omega arith)) in
      cons_accepting t s (97 + s) (places n (97 + s + 1) 1 same)
      (record { below = omega (arith, shape.arcs_many); leaves = source_is (97 + s) b ∙ f; rest = rw (target_is (97 + s) s b f) rest })

  -- So there are 98 from the start.

  unfoldable every_path : List (List ℕ)
  every_path = places 98 0 1 (λ i. i ∷ tail)

  long_path : (i : ℕ) → i < 98 → accepts t (i ∷ tail) ≡ true
  unfolding tail
  long_path i h =
      let b : i < 1120 = omega arith in
      let f : i - 97 ≡ 0 = omega arith in
      let from : (arc t i).source ≡ t.start = source_is i b ∙ (f ∙ sym shape.start_is) in
      accepting_accepts t (i ∷ tail) (cons_accepting t t.start i tail
      (record { below = omega (arith, shape.arcs_many); leaves = from; rest = rw (target_is i 0 b f) (there 1022 1 refl (omega arith)) }))

  found : (p : List ℕ) → accepts t p ≡ true → (i : ℕ) × (i < 98) × (i ∷ tail ≡ p)
  unfolding tail
  found p h = on p (subst (λ (s : ℕ). Accepting t s p) shape.start_is (accepts_accepting t p h))
    where
      on : (p : List ℕ) → Accepting t 0 p → (i : ℕ) × (i < 98) × (i ∷ places 1022 98 1 same ≡ p)
      on [] a = absurd (omega (arith, final_at 0 (accepting_nil t 0 a)))
      on (i ∷ p) a =
          let b : By 0 i p = by 0 i p a in
          (i, omega (arith, b.from), ap (λ (q : List ℕ). i ∷ q) (sym (unique 1 p b.rest (omega arith))))

  within : Within t
  within =
      record {
        leaves = λ i h. let b : i < 1120 = omega (arith, shape.arcs_many) in omega (arith, source_is i b, shape.states_are);
        arrives = λ i h. let b : i < 1120 = omega (arith, shape.arcs_many) in omega (arith, target_is i (i - 97) b refl, shape.states_are);
        starts = omega (arith, shape.start_is, shape.states_are);
      }

  finite : endless t ≡ false
  unfolding endless
  finite =
      (short_finite t t.start within.starts
      (λ p a. omega (arith, level t.start p a, shape.start_is, shape.states_are))).stops

  every_path_at : (i : ℕ) (d : List ℕ) → i < 98 → get_or every_path i d ≡ i ∷ tail
  unfolding every_path
  every_path_at i d h =
      let e : 0 + 1 * i ≡ i = omega arith in
      get_or_places 98 0 1 (λ j. j ∷ tail) i d h ∙ ap (λ (j : ℕ). j ∷ tail) e

  every_path_long : length every_path ≡ 98
  unfolding every_path
  every_path_long = length_places 98 0 1 (λ j. j ∷ tail)

  apart : Distinct (λ p. p) every_path
  apart =
      places_distinct every_path (λ i j d hi hj e.
      let same_arc : i ∷ tail ≡ j ∷ tail =
      sym (every_path_at i d (omega (arith, every_path_long))) ∙ (e ∙ every_path_at j d (omega (arith, every_path_long))) in
      ap (λ (q : List ℕ). get_or q 0 0) same_arc)

  many_paths : length (paths t) ≡ 98
  many_paths =
      let up : length (paths t) ≤ length every_path = no_longer (paths t) every_path (paths_distinct t) (λ p m. listed p (found p (mem_paths t p m))) in
      let down : length every_path ≤ length (paths t) =
      no_longer every_path (paths t) apart (λ p m. not_endless_listed t within finite p (accepted p (place_of every_path p [] m))) in
      omega (arith, every_path_long)
    where
      listed : (p : List ℕ) → (i : ℕ) × (i < 98) × (i ∷ tail ≡ p) → Among p every_path
      listed p f =
          let at : get_or every_path f.0 [] ≡ p = every_path_at f.0 [] f.1 ∙ f.2 in
          rw at at (get_or_in every_path f.0 [] (omega (arith, every_path_long, f.1)))

      accepted : (p : List ℕ) → (i : ℕ) × (i < length every_path) × (get_or every_path i [] ≡ p) → accepts t p ≡ true
      accepted p f =
          let b : f.0 < 98 = omega (arith, every_path_long, f.1) in
          let is : f.0 ∷ tail ≡ p = sym (every_path_at f.0 [] b) ∙ f.2 in
          rw is at (long_path f.0 b)

  -- The text.

  path_is : (k : ℕ) → k < 98 → Accepting t t.start (nth_path t k)
  path_is k h = accepts_accepting t (nth_path t k) (nth_path_accepts t k (omega (arith, many_paths)))

  path_long : (k : ℕ) → k < 98 → length (nth_path t k) ≡ 1023
  path_long k h = omega (arith, level t.start (nth_path t k) (path_is k h), shape.start_is)

  cost_is : (k : ℕ) → k < 98 → path_cost t (nth_path t k) ≡ rebate 1024000000
  unfolding path_cost
  cost_is k h =
      let a : Accepting t t.start (nth_path t k) = path_is k h in
      let last : ends t t.start (nth_path t k) ≡ 1023 = final_at (ends t t.start (nth_path t k)) a.final in
      let w : final_weight t.finals (ends t t.start (nth_path t k)) ≡ min_weight =
      weight_at (ends t t.start (nth_path t k)) last in
      rw (costs t.start (nth_path t k) a, path_long k h, w)

  line_long : (k : ℕ) → k < 98 → length (line_of t k) ≡ length (decimal k) + 6151
  unfolding line_of
  line_long k h =
      let labels : written_by t (nth_path t k) ≡ replicate 1023 65534 =
      writes t.start (nth_path t k) (path_is k h) ∙ ap (λ (n : ℕ). replicate n 65534) (path_long k h) in
      rw (cost_is k h, labels) (omega (arith, length_line k (rebate 1024000000) (replicate 1023 65534), cost_long, labels_long 1023))

  lines_long : (n : ℕ) → n ≤ 98 → length (lines t n) + min n 10 ≡ 6153 * n
  unfolding lines
  lines_long zero h = refl
  lines_long (suc n) h =
      on (ltb n 10) refl (lines_long n (omega arith)) (line_long n (omega arith)) (length-append (lines t n) (line_of t n))
    where
      on : (b : Bool) → ltb n 10 ≡ b → length (lines t n) + min n 10 ≡ 6153 * n → length (line_of t n) ≡ length (decimal n) + 6151
          → length (lines t n ++ line_of t n) ≡ length (lines t n) + length (line_of t n) → length (lines t n ++ line_of t n) + min (suc n) 10 ≡ 6153 * suc n
      on true e rest here both = omega (arith, ltb-true n 10 e, length_decimal_small n (ltb-true n 10 e))
      on false e rest here both = omega (arith, ltb-false n 10 e, two_long n (ltb-false n 10 e) (omega arith))

  text_long : length (listing_text t) ≡ 602996
  unfolding path_count readings_word
  text_long =
      let count : path_count t ≡ 98 = omega (arith, many_paths) in
      let few : counted_text t ≡ decimal 98 ++ (10 ∷ lines t 98) = counted_few t 98 (sym count) (omega arith) in
      rw (listing_finite t finite, few)
      (omega (arith, length-append (decimal 98) (10 ∷ lines t 98), two_long 98 (omega arith) (omega arith), lines_long 98 (omega arith)))

-- That transducer, and its bytes.
unfoldable longest : Transducer
longest = record { states = 1024; start = 0; finals = last_state ∷ []; arcs = places 1120 0 1 arc_at }

longest_line : Line longest
unfolding longest arc
longest_line =
    record {
      states_are = refl;
      start_is = refl;
      finals_are = refl;
      arcs_many = length_places 1120 0 1 arc_at;
      arc_is = λ i h. let e : 0 + 1 * i ≡ i = omega arith in get_or_places 1120 0 1 arc_at i no_arc h ∙ ap arc_at e;
    }

longest_good : Good longest
unfolding longest head_good content_refusal first_of states_good order_good finals_rise sources_stay all_labels_good labels_good weights_good weight_good
    every places
longest_good = record { head = refl; content = refl }

-- There are accepted bytes whose listing has that length.
pub longest_listing : (bs : List ℕ) × Bytes bs × (refusal bs ≡ 0) × (length (listing_text (decode bs)) ≡ least_room)
longest_listing =
    let same_again : decode (encode longest) ≡ longest = decode_encode longest longest_good in
    let long : length (listing_text (decode (encode longest))) ≡ least_room =
    ap (λ (t : Transducer). length (listing_text t)) same_again ∙ text_long longest longest_line in
    (encode longest, bytes_encode longest, refusal_encode longest longest_good, long)
