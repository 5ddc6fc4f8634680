-- The answers of writing: which refusal it is, and what is said and left behind. Assumes nothing.
use mathlib.Core.Path.{◌≡◌, refl, sym, ◌∙◌}
use mathlib.Core.Bool.{true, false}
use mathlib.Core.List.{List}
use Prim.Native.Nat.{ℕ, ◌+◌, ◌*◌, ◌≤◌, ◌<◌}
use native.Mathlib.Omega.{arith}
use borrow.Author.Tests.{lt-ltb, le-ltb, ne_eqb}
use lib.Dec.{eqb}
use lib.ListN.{length}
use lib.Seq.{sets}
use Rattle.wire.specs.Bytes.{places, filled, cleared}
use Rattle.wire.proofs.Places.{length_places}
use Rattle.transducer.specs.Entry.{or_else, unless, left_in}
use Rattle.transducer.specs.Answer.{Written}
use Rattle.transducer.specs.Format.{arc_bytes, max_bytes, Transducer, arcs_at, head_good, first_of, content_refusal}
use Rattle.transducer.specs.Check.{finals_checked, arcs_checked, from_0, none_failed, final_word, arc_word}
use Rattle.transducer.specs.Encode.{head_record, final_records, arc_records, encode}
use Rattle.codec.specs.Entry.{WriteSays, write_refusal, given, final_of, arc_of, too_few}
use Rattle.transducer.proofs.Good.{head_range}
use Rattle.transducer.proofs.Checked.{content_checked}
use Rattle.transducer.proofs.Encode.{length_encode, sets_encode, cleared_sets}
use Rattle.transducer.specs.Weight.{Weight}

-- The four runs are long enough.
pub record Enough (f m a b c d : ℕ) : Type 0 where
  pub states : f ≤ a
  pub weights : f ≤ b
  pub fields : 4 * m ≤ c
  pub arc_weights : m ≤ d

-- The tests of 5 to 8 over the runs are those of the transducer that they give.
pub given_content : (n m f start : ℕ) (a : List ℕ) (b : List Weight) (c : List ℕ) (d : List Weight) →
    let all = arcs_checked m 0 1 n (λ _. arc_word) (arc_of c d) (from_0 (finals_checked f 0 1 n (λ _. final_word) (final_of a b) none_failed)) in
    first_of all.states all.order all.labels all.weights ≡ content_refusal (given n m f start a b c d)
unfolding given
given_content n m f start a b c d =
    content_checked n f 0 1 m 0 1 (λ _. final_word) (λ _. arc_word) (final_of a b) (arc_of c d) (given n m f start a b c d) refl refl refl

-- too_few

module _ (f m a b c d : ℕ) where
  too_few_states : a < f → too_few f m a b c d ≡ true
  unfolding too_few
  too_few_states h = rw (lt-ltb a f h)

  too_few_weights : f ≤ a → b < f → too_few f m a b c d ≡ true
  unfolding too_few
  too_few_weights p h = rw (le-ltb a f p, lt-ltb b f h)

  too_few_fields : f ≤ a → f ≤ b → c < 4 * m → too_few f m a b c d ≡ true
  unfolding too_few
  too_few_fields p q h = rw (le-ltb a f p, le-ltb b f q, lt-ltb c (4 * m) h)

  too_few_arc_weights : f ≤ a → f ≤ b → 4 * m ≤ c → d < m → too_few f m a b c d ≡ true
  unfolding too_few
  too_few_arc_weights p q r h = rw (le-ltb a f p, le-ltb b f q, le-ltb c (4 * m) r, lt-ltb d m h)

  pub not_too_few : Enough f m a b c d → too_few f m a b c d ≡ false
  unfolding too_few
  not_too_few h = rw (le-ltb a f h.states, le-ltb b f h.weights, le-ltb c (4 * m) h.fields, le-ltb d m h.arc_weights)

-- WriteSays

says_refused : (t : Transducer) (number k : ℕ) (out : List ℕ) (r : Written) → number ≡ k → eqb k 0 ≡ false → r ≡ record { refusal = k; len = 0 }
    → WriteSays t number r out out
unfolding unless left_in
says_refused t number k out r is bad h = rw h (record { refusal_is = sym is; len_is = rw (is, bad); bytes = rw (is, bad) })

says_written : (t : Transducer) (number len : ℕ) (out out' : List ℕ) → number ≡ 0 → len ≡ length (encode t) → out' ≡ filled (length out) (encode t) →
    WriteSays t number (record { refusal = 0; len = len }) out out'
unfolding unless left_in
says_written t number len out out' is long bytes = record { refusal_is = sym is; len_is = rw is long; bytes = rw is bytes }

-- One law for each answer, in the order of the tests.
module _ (n m f start : ℕ) (a : List ℕ) (b : List Weight) (c : List ℕ) (d : List Weight) (out : List ℕ) where
  abbrev pub Refused : (k : ℕ) → Type 0
  Refused k =
      (r : Written) → r ≡ record { refusal = k; len = 0 } → WriteSays (given n m f start a b c d) (write_refusal n m f start a b c d (length out)) r out out

  refused : (k : ℕ) → write_refusal n m f start a b c d (length out) ≡ k → eqb k 0 ≡ false → Refused k
  refused k is bad r h = says_refused (given n m f start a b c d) (write_refusal n m f start a b c d (length out)) k out r is bad h

  pub says_3 : head_good n m f start ≡ false → Refused 3
  unfolding write_refusal
  says_3 h = refused 3 (rw h) refl

  module _ (head : head_good n m f start ≡ true) where
    says_4 : too_few f m (length a) (length b) (length c) (length d) ≡ true → Refused 4
    unfolding write_refusal
    says_4 few = refused 4 (rw (head, few)) refl

    pub says_4_states : length a < f → Refused 4
    says_4_states h = says_4 (too_few_states f m (length a) (length b) (length c) (length d) h)

    pub says_4_weights : f ≤ length a → length b < f → Refused 4
    says_4_weights p h = says_4 (too_few_weights f m (length a) (length b) (length c) (length d) p h)

    pub says_4_fields : f ≤ length a → f ≤ length b → length c < 4 * m → Refused 4
    says_4_fields p q h = says_4 (too_few_fields f m (length a) (length b) (length c) (length d) p q h)

    pub says_4_arc_weights : f ≤ length a → f ≤ length b → 4 * m ≤ length c → length d < m → Refused 4
    says_4_arc_weights p q r h = says_4 (too_few_arc_weights f m (length a) (length b) (length c) (length d) p q r h)

    module _ (enough : Enough f m (length a) (length b) (length c) (length d)) where
      all : too_few f m (length a) (length b) (length c) (length d) ≡ false
      all = not_too_few f m (length a) (length b) (length c) (length d) enough

      pub says_content : (k : ℕ) → k ≡ content_refusal (given n m f start a b c d) → (k ≡ 0 → ⊥) → Refused k
      unfolding write_refusal or_else
      says_content k is bad = let no : eqb k 0 ≡ false = ne_eqb k 0 bad in refused k (rw (head, all, ← is, no)) no

      module _ (number : ℕ) (is : number ≡ content_refusal (given n m f start a b c d)) (good : number ≡ 0) where
        pub says_10 : length out < max_bytes → Refused 10
        unfolding write_refusal or_else
        says_10 short = refused 10 (rw (head, all, ← is, good, lt-ltb (length out) max_bytes short)) refl

        says_0 : max_bytes ≤ length out → write_refusal n m f start a b c d (length out) ≡ 0
        unfolding write_refusal or_else
        says_0 room = rw (head, all, ← is, good, le-ltb (length out) max_bytes room)

        says_stored : {o1 o2 o3 o4 : List ℕ} → max_bytes ≤ length out → o1 ≡ sets out 0 (head_record n m f start) →
            o2 ≡ sets o1 12 (final_records (places f 0 1 (final_of a b))) → o3 ≡ sets o2 (arcs_at f) (arc_records (places m 0 1 (arc_of c d))) →
            o4 ≡ cleared (arcs_at f + arc_bytes * m) o3 →
            WriteSays (given n m f start a b c d) (write_refusal n m f start a b c d (length out))
            (record { refusal = 0; len = arcs_at f + arc_bytes * m }) out o4
        unfolding given
        says_stored room h1 h2 h3 h4 =
            let t = given n m f start a b c d in
            let finals : length t.finals ≡ f = length_places f 0 1 (final_of a b) in
            let arcs : length t.arcs ≡ m = length_places m 0 1 (arc_of c d) in
            let long : length (encode t) ≡ arcs_at f + arc_bytes * m = length_encode t ∙ rw (finals, arcs) in
            let fits : arcs_at f + arc_bytes * m ≤ length out = omega (arith, head_range n m f start head) in
            says_written t (write_refusal n m f start a b c d (length out)) (arcs_at f + arc_bytes * m) out _ (says_0 room) (sym long)
            (cleared_sets (encode t) out (arcs_at f + arc_bytes * m) long fits (sets_encode t out f m finals arcs h1 h2 h3) h4)

        -- The head, the finals and the arcs stored, and zeros behind them.
        pub says_all : {first : ℕ} {o1 o2 o3 o4 : List ℕ} → max_bytes ≤ length out → first ≡ arcs_at f → o1 ≡ sets out 0 (head_record n m f start) →
            o2 ≡ sets o1 12 (final_records (places f 0 1 (final_of a b))) → o3 ≡ sets o2 first (arc_records (places m 0 1 (arc_of c d))) →
            o4 ≡ cleared (first + arc_bytes * m) o3 →
            WriteSays (given n m f start a b c d) (write_refusal n m f start a b c d (length out)) (record { refusal = 0; len = first + arc_bytes * m }) out o4
        says_all room place h1 h2 h3 h4 = rw place (says_stored room h1 h2 (rw place at h3) (rw place at h4))
