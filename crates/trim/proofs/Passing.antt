-- The arcs that pass a test: which arc stands at which place, that they can be written if all arcs can, and a loop that writes them. Assumes nothing.
use mathlib.Core.Path.{◌≡◌, refl, sym, ap, ◌∙◌}
use mathlib.Core.Bool.{Bool, true, false, cond}
use mathlib.Core.List.{List, [], ◌∷◌, ◌++◌, append-nil}
use Prim.Native.Nat.{ℕ, zero, suc, ◌+◌, ◌*◌, ◌≤◌, ◌<◌}
use native.Mathlib.Nat.{not-suc-le-zero, le_of_suc-le-suc, add-zero, zero-add}
use native.Mathlib.Numerals.{add-one}
use native.Mathlib.Omega.{arith}
use lib.Dec.{ltb, leb}
use lib.ListN.{length, get_or, set, take, length-set, length-append}
use lib.Seq.{sets, take-suc, take_all, length-take-le}
use borrow.Author.Tests.{ltb-true, ltb-false, leb-true, le-leb}
use Rattle.wire.specs.Bytes.{every}
use Rattle.wire.proofs.Bool.{and-true, true_and}
use Rattle.transducer.specs.declared.Arc.{Arc}
use Rattle.transducer.specs.Format.{arc_bytes, sources_stay}
use Rattle.transducer.specs.Encode.{arc_record, arc_records}
use Rattle.transducer.specs.Path.{no_arc}
use Rattle.transducer.proofs.Encode.{sets_then, length_arc_records, arc_records_append}
use Rattle.trim.specs.Passing.{passing, passing_numbers, PassingPut}

-- How many pass

pub length_passing : (test : Arc → Bool) (change : Arc → Arc) (i : ℕ) (l : List Arc) → length (passing_numbers test i l) ≡ length (passing test change l)
unfolding passing passing_numbers
length_passing test change i [] = refl
length_passing test change i (a ∷ l) = on (test a) (length_passing test change (suc i) l)
  where
    on : (b : Bool) → length (passing_numbers test (suc i) l) ≡ length (passing test change l)
        → length (cond b (i ∷ passing_numbers test (suc i) l) (passing_numbers test (suc i) l))
        ≡ length (cond b (change a ∷ passing test change l) (passing test change l))
    on true e = ap suc e
    on false e = e

pub passing_few : (test : Arc → Bool) (change : Arc → Arc) (l : List Arc) → length (passing test change l) ≤ length l
unfolding passing
passing_few test change [] = omega arith
passing_few test change (a ∷ l) = on (test a) (passing_few test change l)
  where
    on : (b : Bool) → length (passing test change l) ≤ length l → length (cond b (change a ∷ passing test change l) (passing test change l)) ≤ suc (length l)
    on true h = omega arith
    on false h = omega arith

-- Which arc stands at which place

-- The place that an arc which passes had.
pub record PassedAt (test : Arc → Bool) (change : Arc → Arc) (i : ℕ) (l : List Arc) (j : ℕ) : Type 0 where
  pub place : ℕ
  pub below : place < length l
  pub passes : test (get_or l place no_arc) ≡ true
  pub number : get_or (passing_numbers test i l) j 0 ≡ i + place
  pub arc_is : get_or (passing test change l) j no_arc ≡ change (get_or l place no_arc)

pub passed_at : (test : Arc → Bool) (change : Arc → Arc) (i : ℕ) (l : List Arc) (j : ℕ) → j < length (passing test change l) → PassedAt test change i l j
unfolding passing passing_numbers
passed_at test change i [] j h = absurd (not-suc-le-zero h)
passed_at test change i (a ∷ l) j h = on (test a) refl j h (λ j' h'. passed_at test change (suc i) l j' h')
  where
    later : (j : ℕ) (r : PassedAt test change (suc i) l j) → suc i + r.place ≡ i + suc r.place
    later j r = omega arith

    on : (b : Bool) → test a ≡ b → (j : ℕ) → j < length (passing test change (a ∷ l))
        → ((j' : ℕ) → j' < length (passing test change l) → PassedAt test change (suc i) l j') → PassedAt test change i (a ∷ l) j
    on true e zero h more = record { place = 0; below = omega arith; passes = e; number = rw (e, add-zero); arc_is = rw e }
    on true e (suc j) h more =
        let r : PassedAt test change (suc i) l j = more j (le_of_suc-le-suc (rw e at h)) in
        record { place = suc r.place; below = omega arith; passes = r.passes; number = rw e (r.number ∙ later j r); arc_is = rw e r.arc_is }
    on false e j h more =
        let r : PassedAt test change (suc i) l j = more j (rw e at h) in
        record { place = suc r.place; below = omega arith; passes = r.passes; number = rw e (r.number ∙ later j r); arc_is = rw e r.arc_is }

-- Each arc that passes is there.
pub record PassedTo (test : Arc → Bool) (change : Arc → Arc) (i : ℕ) (l : List Arc) (k : ℕ) : Type 0 where
  pub place : ℕ
  pub below : place < length (passing test change l)
  pub number : get_or (passing_numbers test i l) place 0 ≡ i + k

pub passed_to : (test : Arc → Bool) (change : Arc → Arc) (i : ℕ) (l : List Arc) (k : ℕ) → k < length l → test (get_or l k no_arc) ≡ true
    → PassedTo test change i l k
unfolding passing passing_numbers
passed_to test change i [] k h u = absurd (not-suc-le-zero h)
passed_to test change i (a ∷ l) zero h u = record { place = 0; below = rw u (omega arith); number = rw (u, add-zero) }
passed_to test change i (a ∷ l) (suc k) h u = on (test a) refl (passed_to test change (suc i) l k (le_of_suc-le-suc h) u)
  where
    on : (b : Bool) → test a ≡ b → PassedTo test change (suc i) l k → PassedTo test change i (a ∷ l) (suc k)
    on true e r =
        let n : suc i + k ≡ i + suc k = omega arith in
        record { place = suc r.place; below = rw e (omega arith); number = rw e (r.number ∙ n) }
    on false e r =
        let n : suc i + k ≡ i + suc k = omega arith in
        record { place = r.place; below = rw e r.below; number = rw e (r.number ∙ n) }

-- The numbers rise strictly.
pub passing_rise : (test : Arc → Bool) (i : ℕ) (l : List Arc) (j j' : ℕ) → j < j' → j' < length (passing_numbers test i l)
    → get_or (passing_numbers test i l) j 0 < get_or (passing_numbers test i l) j' 0
unfolding passing_numbers
passing_rise test i [] j j' h h' = absurd (not-suc-le-zero h')
passing_rise test i (a ∷ l) j j' h h' = on (test a) refl j j' h h' (λ j j' h h'. passing_rise test (suc i) l j j' h h')
  where
    same : Arc → Arc
    same b = b

    later : (j : ℕ) → j < length (passing_numbers test (suc i) l) → i < get_or (passing_numbers test (suc i) l) j 0
    later j h = omega (arith, (passed_at test same (suc i) l j (omega (arith, length_passing test same (suc i) l))).number)

    Rises : List ℕ → Type 0
    Rises l = (j j' : ℕ) → j < j' → j' < length l → get_or l j 0 < get_or l j' 0

    on : (b : Bool) → test a ≡ b → (j j' : ℕ) → j < j' → j' < length (passing_numbers test i (a ∷ l)) → Rises (passing_numbers test (suc i) l)
        → get_or (passing_numbers test i (a ∷ l)) j 0 < get_or (passing_numbers test i (a ∷ l)) j' 0
    on true e j zero h h' more = absurd (not-suc-le-zero h)
    on true e zero (suc j') h h' more = rw e (later j' (le_of_suc-le-suc (rw e at h')))
    on true e (suc j) (suc j') h h' more = rw e (more j j' (le_of_suc-le-suc h) (le_of_suc-le-suc (rw e at h')))
    on false e j j' h h' more = rw e (more j j' h (rw e at h'))

-- So no arc stands there twice.
pub passing_injective : (test : Arc → Bool) (change : Arc → Arc) (i : ℕ) (l : List Arc) (j j' : ℕ) → j < length (passing test change l)
    → j' < length (passing test change l) → get_or (passing_numbers test i l) j 0 ≡ get_or (passing_numbers test i l) j' 0 → j ≡ j'
passing_injective test change i l j j' h h' e = on (ltb j j') refl (ltb j' j) refl
  where
    few : length (passing_numbers test i l) ≡ length (passing test change l)
    few = length_passing test change i l

    on : (b : Bool) → ltb j j' ≡ b → (b' : Bool) → ltb j' j ≡ b' → j ≡ j'
    on true c b' c' = absurd (omega (arith, passing_rise test i l j j' (ltb-true j j' c) (omega (arith, few))))
    on false c true c' = absurd (omega (arith, passing_rise test i l j' j (ltb-true j' j c') (omega (arith, few))))
    on false c false c' = omega (arith, ltb-false j j' c, ltb-false j' j c')

-- A test of each

pub every_passing : (test : Arc → Bool) (change : Arc → Arc) (p q : Arc → Bool) (l : List Arc)
    → ((a : Arc) → test a ≡ true → p a ≡ true → q (change a) ≡ true) → every p l ≡ true → every q (passing test change l) ≡ true
unfolding every passing
every_passing test change p q [] so h = refl
every_passing test change p q (a ∷ l) so h = on (test a) refl (every_passing test change p q l so (and-true (p a) (every p l) h).1)
  where
    on : (b : Bool) → test a ≡ b → every q (passing test change l) ≡ true → every q (cond b (change a ∷ passing test change l) (passing test change l)) ≡ true
    on true u more = true_and (q (change a)) (every q (passing test change l)) (so a u (and-true (p a) (every p l) h).0) more
    on false u more = more

pub stay_lower : (floor floor' : ℕ) (l : List Arc) → floor' ≤ floor → sources_stay floor l ≡ true → sources_stay floor' l ≡ true
unfolding sources_stay
stay_lower floor floor' [] l h = refl
stay_lower floor floor' (a ∷ as') l h =
    let e = and-true (leb floor a.source) (sources_stay a.source as') h in
    true_and (leb floor' a.source) (sources_stay a.source as') (le-leb floor' a.source (omega (arith, leb-true floor a.source e.0))) e.1

-- If the arcs are sorted by source and the change of a source keeps the order, those that pass are sorted.
pub passing_stay : (test : Arc → Bool) (change : Arc → Arc) (source : ℕ → ℕ) → ((s s' : ℕ) → s ≤ s' → source s ≤ source s')
    → ((a : Arc) → (change a).source ≡ source a.source) → (floor : ℕ) (l : List Arc) → sources_stay floor l ≡ true
    → sources_stay (source floor) (passing test change l) ≡ true
unfolding sources_stay passing
passing_stay test change source rises is floor [] h = refl
passing_stay test change source rises is floor (a ∷ l) h = on (test a) (passing_stay test change source rises is a.source l e.1)
  where
    e : (leb floor a.source ≡ true) × (sources_stay a.source l ≡ true)
    e = and-true (leb floor a.source) (sources_stay a.source l) h

    up : source floor ≤ source a.source
    up = rises floor a.source (leb-true floor a.source e.0)

    on : (b : Bool) → sources_stay (source a.source) (passing test change l) ≡ true
        → sources_stay (source floor) (cond b (change a ∷ passing test change l) (passing test change l)) ≡ true
    on true more =
        rw (is a)
        (true_and (leb (source floor) (source a.source)) (sources_stay (source a.source) (passing test change l))
        (le-leb (source floor) (source a.source) up) more)
    on false more = stay_lower (source a.source) (source floor) (passing test change l) up more

-- Two tests that agree on each arc.
pub passing_same : (f g : Arc → Bool) (change : Arc → Arc) (l : List Arc)
    → ((i : ℕ) → i < length l → f (get_or l i no_arc) ≡ g (get_or l i no_arc)) → passing f change l ≡ passing g change l
unfolding passing
passing_same f g change [] e = refl
passing_same f g change (a ∷ l) e =
    let here : f a ≡ g a = e 0 (omega arith) in
    rw here (ap (λ (r : List Arc). cond (g a) (change a ∷ r) r) (passing_same f g change l (λ i h. e (suc i) (omega arith))))

pub numbers_same : (f g : Arc → Bool) (i : ℕ) (l : List Arc) → ((j : ℕ) → j < length l → f (get_or l j no_arc) ≡ g (get_or l j no_arc))
    → passing_numbers f i l ≡ passing_numbers g i l
unfolding passing_numbers
numbers_same f g i [] e = refl
numbers_same f g i (a ∷ l) e =
    let here : f a ≡ g a = e 0 (omega arith) in
    rw here (ap (λ (r : List ℕ). cond (g a) (i ∷ r) r) (numbers_same f g (suc i) l (λ j h. e (suc j) (omega arith))))

-- One more arc

passing_snoc : (test : Arc → Bool) (change : Arc → Arc) (l : List Arc) (a : Arc)
    → passing test change (l ++ (a ∷ [])) ≡ passing test change l ++ cond (test a) (change a ∷ []) []
unfolding passing
passing_snoc test change [] a = refl
passing_snoc test change (b ∷ l) a = on (test b) (passing_snoc test change l a)
  where
    on : (c : Bool) → passing test change (l ++ (a ∷ [])) ≡ passing test change l ++ cond (test a) (change a ∷ []) []
        → cond c (change b ∷ passing test change (l ++ (a ∷ []))) (passing test change (l ++ (a ∷ [])))
        ≡ cond c (change b ∷ passing test change l) (passing test change l) ++ cond (test a) (change a ∷ []) []
    on true e = ap (λ (r : List Arc). change b ∷ r) e
    on false e = e

numbers_snoc : (test : Arc → Bool) (i : ℕ) (l : List Arc) (a : Arc)
    → passing_numbers test i (l ++ (a ∷ [])) ≡ passing_numbers test i l ++ cond (test a) ((i + length l) ∷ []) []
unfolding passing_numbers
numbers_snoc test i [] a = rw (add-zero) refl
numbers_snoc test i (b ∷ l) a =
    let e : suc i + length l ≡ i + suc (length l) = omega arith in
    on (test b) (numbers_snoc test (suc i) l a ∙ ap (λ (n : ℕ). passing_numbers test (suc i) l ++ cond (test a) (n ∷ []) []) e)
  where
    on : (c : Bool) → passing_numbers test (suc i) (l ++ (a ∷ [])) ≡ passing_numbers test (suc i) l ++ cond (test a) ((i + suc (length l)) ∷ []) []
        → cond c (i ∷ passing_numbers test (suc i) (l ++ (a ∷ []))) (passing_numbers test (suc i) (l ++ (a ∷ [])))
        ≡ cond c (i ∷ passing_numbers test (suc i) l) (passing_numbers test (suc i) l) ++ cond (test a) ((i + suc (length l)) ∷ []) []
    on true e = ap (λ (r : List ℕ). i ∷ r) e
    on false e = e

-- A loop that writes them: of the first `i` arcs those that pass stand from `at` on, and their numbers at the front.
pub record PassingSoFar (test : Arc → Bool) (change : Arc → Arc) (l : List Arc) (at i count : ℕ) (out₀ out ns₀ ns : List ℕ) : Type 0 where
  pub within : i ≤ length l
  pub few : count ≤ i
  pub long : length out ≡ length out₀
  pub numbers_long : length ns ≡ length ns₀
  pub count_is : count ≡ length (passing test change (take i l))
  pub so_far : out ≡ sets out₀ at (arc_records (passing test change (take i l)))
  pub numbers_are : ns ≡ sets ns₀ 0 (passing_numbers test 0 (take i l))

module _ {test : Arc → Bool} {change : Arc → Arc} {l : List Arc} {at : ℕ} where
  pub passing_first : (out ns : List ℕ) → PassingSoFar test change l at 0 0 out out ns ns
  unfolding passing passing_numbers arc_records
  passing_first out ns =
      record { within = omega arith; few = omega arith; long = refl; numbers_long = refl; count_is = refl; so_far = refl; numbers_are = refl }

  module _ {i count : ℕ} {out₀ out ns₀ ns : List ℕ} (a : Arc) (h : i < length l) (is : a ≡ get_or l i no_arc)
      (k : PassingSoFar test change l at i count out₀ out ns₀ ns) where
    taken : take (i + 1) l ≡ take i l ++ (a ∷ [])
    taken = rw (add-one, take-suc l i no_arc h, is) refl

    pub passing_skip : test a ≡ false → PassingSoFar test change l at (i + 1) count out₀ out ns₀ ns
    passing_skip u =
        let same : passing test change (take (i + 1) l) ≡ passing test change (take i l) =
        ap (passing test change) taken ∙ (passing_snoc test change (take i l) a ∙ (rw u (append-nil (passing test change (take i l))))) in
        let numbers : passing_numbers test 0 (take (i + 1) l) ≡ passing_numbers test 0 (take i l) =
        ap (passing_numbers test 0) taken ∙ (numbers_snoc test 0 (take i l) a ∙ (rw u (append-nil (passing_numbers test 0 (take i l))))) in
        record {
          within = omega arith;
          few = omega (arith, k.few);
          long = k.long;
          numbers_long = k.numbers_long;
          count_is = rw same k.count_is;
          so_far = rw same k.so_far;
          numbers_are = rw numbers k.numbers_are;
        }

    pub passing_more : {last last_ns : List ℕ} (a' : Arc) (n p : ℕ) → test a ≡ true → a' ≡ change a → n ≡ i → p ≡ count → length last ≡ length out
        → last ≡ sets out (at + arc_bytes * count) (arc_record a') → last_ns ≡ set ns p n
        → PassingSoFar test change l at (i + 1) (count + 1) out₀ last ns₀ last_ns
    unfolding arc_records
    passing_more {last} {last_ns} a' n p u e number compact same put put-there =
        let put_number : last_ns ≡ set ns count n = rw compact at put-there in
        let old : List Arc = passing test change (take i l) in
        let numbers : List ℕ = passing_numbers test 0 (take i l) in
        let more : passing test change (take (i + 1) l) ≡ old ++ (a' ∷ []) =
        ap (passing test change) taken ∙ (passing_snoc test change (take i l) a ∙ (rw (u, e) refl)) in
        let last_number : 0 + length (take i l) ≡ n = omega (arith, length-take-le i l (omega arith), number) in
        let more_numbers : passing_numbers test 0 (take (i + 1) l) ≡ numbers ++ (n ∷ []) =
        ap (passing_numbers test 0) taken ∙ (numbers_snoc test 0 (take i l) a ∙ (rw u (ap (λ (x : ℕ). numbers ++ (x ∷ [])) last_number))) in
        let one : arc_records (a' ∷ []) ≡ arc_record a' = append-nil (arc_record a') in
        let sized : length (arc_records old) ≡ arc_bytes * count = length_arc_records old ∙ ap (λ (n : ℕ). arc_bytes * n) (sym k.count_is) in
        let sized_numbers : length numbers ≡ count = length_passing test change 0 (take i l) ∙ sym k.count_is in
        record {
          within = omega arith;
          few = omega (arith, k.few);
          long = same ∙ k.long;
          numbers_long = ap length put_number ∙ (length-set ns count n ∙ k.numbers_long);
          count_is = rw more (omega (arith, length-append old (a' ∷ []), k.count_is));
          so_far = rw (more, arc_records_append old (a' ∷ []), one)
              (sets_then out₀ at (arc_bytes * count) (arc_records old) (arc_record a') sized k.so_far put);
          numbers_are = rw more_numbers (sets_then ns₀ 0 count numbers (n ∷ []) sized_numbers k.numbers_are (rw zero-add put_number));
        }

  pub passing_stop : {i count : ℕ} {out₀ out ns₀ ns : List ℕ} → length l ≤ i → PassingSoFar test change l at i count out₀ out ns₀ ns
      → PassingPut test change l at count out₀ out ns₀ ns
  passing_stop {i} h k =
      let all : take i l ≡ l = take_all i l h in
      record { count_is = rw all at k.count_is; table = rw all at k.so_far; numbers_are = rw all at k.numbers_are }
