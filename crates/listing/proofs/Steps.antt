-- From what composing and applying answer to the text of the listing. Assumes nothing.
use mathlib.Core.Path.{◌≡◌, refl, sym, ap, ◌∙◌}
use mathlib.Core.Bool.{true, ◌&&◌}
use mathlib.Core.List.{List}
use Prim.Native.Nat.{ℕ, ◌-◌, ◌%◌, ◌≤◌, ◌<◌}
use native.Mathlib.Omega.{arith}
use borrow.Author.Tests.{eq-eqb, ne_eqb, lt-ltb, le-ltb, lt-leb, leb-true, leb-false}
use lib.Dec.{eqb, ltb, leb}
use lib.ListN.{length, take, get_or, replicate, length-append, length-take, length-replicate}
use lib.Seq.{take_at, take_all}
use Rattle.std.proofs.Common.{Fits, w8}
use Rattle.wire.specs.Bytes.{Bytes, every, filled}
use Rattle.wire.proofs.Bool.{by_test, and-true}
use Rattle.transducer.specs.Answer.{Written}
use Rattle.transducer.specs.Format.{Transducer, Good, max_symbols, max_states, max_arcs, max_bytes, max_origins, barred, refusal, decode}
use Rattle.transducer.specs.Entry.{or_else, unless, left_in}
use Rattle.transducer.proofs.RoundTrip.{accepted_good}
use Rattle.compose.specs.Entry.{ComposeSays, compose_refusal, composition, composition_refusal}
use Rattle.compose.specs.Composition.{Composition}
use Rattle.compose.proofs.Called.{ComposedCall, composed_number, composition_of, composable, composed_fits, composition_read, composition_accepted}
use Rattle.lattice.specs.Apply.{string_good}
use Rattle.lattice.specs.Lattice.{lattice}
use Rattle.lattice.specs.ApplyEntry.{ApplySays, apply_refusal, application_refusal}
use Rattle.lattice.specs.Application.{Application}
use Rattle.lattice.proofs.Called.{Appliable, unrefused_appliable, AppliedCall, applied_number, application_of, applied_fits, applied_read, applied_accepted}
use Rattle.listing.specs.Answer.{Listed}
use Rattle.listing.specs.Code.{labels_in, most_loaded}
use Rattle.listing.specs.Text.{listing_text, refused_text, least_room, Whole}
use Rattle.listing.specs.Entry.{applied_refusal, listing_refusal, text_unless, applied_text, text_of, text_room, ListingSays}

-- What a call wrote at the front of its buffer, by the length that it told.
pub front : (n : ℕ) (a a' xs : List ℕ) → a' ≡ filled (length a) xs → n ≡ length xs → (take n a' ≡ xs) × (n ≤ length a')
unfolding filled
front n a a' xs put many =
    let rest : List ℕ = replicate (length a - length xs) 0 in
    (ap (λ (x : List ℕ). take n x) put ∙ take_at xs rest n (sym many), omega (arith, ap length put ∙ length-append xs rest, many))

-- An answer with the line of a refusal, and one with the text that no refusal keeps back.
pub text_refused : {out out' : List ℕ} {w : Listed} (number n : ℕ) (text : List ℕ) → number ≡ n → (n ≡ 0 → ⊥) → Whole out out' w n (refused_text n)
    → Whole out out' w number (text_unless number text)
unfolding text_unless
text_refused number n text e h p = rw (e, ne_eqb n 0 h) p

pub text_kept : {out out' : List ℕ} {w : Listed} (number : ℕ) (text : List ℕ) → number ≡ 0 → Whole out out' w 0 text
    → Whole out out' w number (text_unless number text)
unfolding text_unless
text_kept number text e p = rw e p

-- A buffer as it is lent.
abbrev zeros : (n : ℕ) → List ℕ
zeros n = replicate n 0

-- The string

-- A good string is whole among its first labels, one more than a string may have.
pub good_whole : (s : List ℕ) → string_good s ≡ true → take most_loaded s ≡ s
unfolding string_good
good_whole s g =
    let few : length s ≤ max_symbols = leb-true (length s) max_symbols (and-true (leb (length s) max_symbols) (every (λ c. leb 1 c && ltb c barred) s) g).0 in
    take_all most_loaded s (omega arith)

-- Those first labels are good where the string is.
pub taken_good : (s : List ℕ) → string_good (take most_loaded s) ≡ string_good s
unfolding string_good
taken_good s =
    by_test (leb (length s) max_symbols)
    (λ e. let few : length s ≤ max_symbols = leb-true (length s) max_symbols e in rw (take_all most_loaded s (omega arith)))
    (λ e. let many : max_symbols < length (take most_loaded s) = omega (arith, length-take most_loaded s, leb-false (length s) max_symbols e) in
    rw (e, lt-leb (length (take most_loaded s)) max_symbols many))

pub odd_refused : {out out' : List ℕ} {w : Listed} (t : Transducer) (cs : List ℕ) → (length cs % 2 ≡ 0 → ⊥) → Whole out out' w 9 (refused_text 9)
    → Whole out out' w (applied_refusal t cs) (applied_text t cs)
unfolding applied_text applied_refusal
odd_refused t cs odd p =
    text_refused (applied_refusal t cs) 9 (listing_text (lattice (labels_in cs) t)) (rw (ne_eqb (length cs % 2) 0 odd)) (λ z. omega arith) p

labels_number : (t : Transducer) (cs s : List ℕ) → length cs % 2 ≡ 0 → s ≡ take most_loaded (labels_in cs)
    → application_refusal s t ≡ applied_refusal t cs
unfolding applied_refusal application_refusal or_else
labels_number t cs s even e =
    by_test (string_good (labels_in cs)) (λ g. rw (e, good_whole (labels_in cs) g, g, eq-eqb (length cs % 2) 0 even))
    (λ g. rw (e, taken_good (labels_in cs), g, eq-eqb (length cs % 2) 0 even))

pub applied_fine : (t : Transducer) (cs : List ℕ) → applied_refusal t cs ≡ 0 → Appliable (labels_in cs) t
unfolding applied_refusal
applied_fine t cs h =
    by_test (eqb (length cs % 2) 0) (λ e. unrefused_appliable (labels_in cs) t (rw e at h))
    (λ e. let z : ◌≡◌ {A = ℕ} 9 0 = rw e at h in absurd (omega arith))

-- Applying

-- The labels of a code applied to an accepted transducer.
pub record Applying (bs cs s : List ℕ) (r : Written) (a a' b b' c c' : List ℕ) : Type 0 where
  pub bytes : Bytes bs
  pub accepted : refusal bs ≡ 0
  pub even : length cs % 2 ≡ 0
  pub string : s ≡ take most_loaded (labels_in cs)
  pub call : AppliedCall s bs r a a' b b' c c'

-- Each buffer that is lent is long enough.
pub applying : {bs cs s a b c : List ℕ} {r : Written} → ((i : ℕ) → Fits w8 (get_or bs i 0)) → refusal bs ≡ 0 → length cs % 2 ≡ 0
    → s ≡ take most_loaded (labels_in cs)
    → ApplySays s bs (apply_refusal s bs (length (zeros max_bytes)) (length (zeros max_arcs)) (length (zeros max_states))) r
    (zeros max_bytes) a (zeros max_arcs) b (zeros max_states) c
    → Applying bs cs s r (zeros max_bytes) a (zeros max_arcs) b (zeros max_states) c
applying fits ok even string says =
    record {
      bytes = λ i. (fits i).fits;
      accepted = ok;
      even = even;
      string = string;
      call =
          record {
            lattice_room = omega (arith, length-replicate {A = ℕ} max_bytes 0);
            origins_room = omega (arith, length-replicate {A = ℕ} max_arcs 0);
            pairs_room = omega (arith, length-replicate {A = ℕ} max_states 0);
            says = says;
          };
    }

module _ {bs cs s : List ℕ} {r : Written} {a a' b b' c c' : List ℕ} (x : Applying bs cs s r a a' b b' c c') where
  apply_is : r.refusal ≡ applied_refusal (decode bs) cs
  apply_is = applied_number x.call x.accepted ∙ labels_number (decode bs) cs s x.even x.string

  pub apply_refused : {out out' : List ℕ} {w : Listed} → (r.refusal ≡ 0 → ⊥) → Whole out out' w r.refusal (refused_text r.refusal)
      → Whole out out' w (applied_refusal (decode bs) cs) (applied_text (decode bs) cs)
  unfolding applied_text
  apply_refused nonzero p =
      text_refused (applied_refusal (decode bs) cs) r.refusal (listing_text (lattice (labels_in cs) (decode bs))) (sym apply_is) nonzero p

  module _ (fine : r.refusal ≡ 0) where
    abbrev put : Application s bs
    put = application_of x.call fine

    good : Good (decode bs)
    good = accepted_good bs x.bytes x.accepted

    pub lattice_fits : r.len ≤ length a'
    lattice_fits = applied_fits put

    pub lattice_accepted : refusal (take r.len a') ≡ 0
    lattice_accepted = applied_accepted good put

    pub lattice_listed : {out out' : List ℕ} {w : Listed} → Whole out out' w 0 (listing_text (decode (take r.len a')))
        → Whole out out' w (applied_refusal (decode bs) cs) (applied_text (decode bs) cs)
    unfolding applied_text
    lattice_listed {out} {out'} {w} p =
        let none : applied_refusal (decode bs) cs ≡ 0 = sym apply_is ∙ fine in
        let whole : s ≡ labels_in cs = x.string ∙ good_whole (labels_in cs) (applied_fine (decode bs) cs none).string in
        let same : decode (take r.len a') ≡ lattice (labels_in cs) (decode bs) =
        applied_read good put ∙ ap (λ (l : List ℕ). lattice l (decode bs)) whole in
        text_kept (applied_refusal (decode bs) cs) (listing_text (lattice (labels_in cs) (decode bs))) none (rw same at p)

-- Composing

-- Two transducers composed.
pub record Composing (xs ys : List ℕ) (r : Written) (a a' b b' c c' : List ℕ) : Type 0 where
  pub left : Bytes xs
  pub right : Bytes ys
  pub call : ComposedCall xs ys r a a' b b' c c'

pub composing : {xs ys a b c : List ℕ} {r : Written} → ((i : ℕ) → Fits w8 (get_or xs i 0)) → ((i : ℕ) → Fits w8 (get_or ys i 0))
    → ComposeSays xs ys (compose_refusal xs ys (length (zeros max_bytes)) (length (zeros max_origins)) (length (zeros max_states))) r
    (zeros max_bytes) a (zeros max_origins) b (zeros max_states) c
    → Composing xs ys r (zeros max_bytes) a (zeros max_origins) b (zeros max_states) c
composing left right says =
    record {
      left = λ i. (left i).fits;
      right = λ i. (right i).fits;
      call =
          record {
            table_room = omega (arith, length-replicate {A = ℕ} max_bytes 0);
            origins_room = omega (arith, length-replicate {A = ℕ} max_origins 0);
            states_room = omega (arith, length-replicate {A = ℕ} max_states 0);
            says = says;
          };
    }

module _ {xs ys : List ℕ} {r : Written} {a a' b b' c c' : List ℕ} (cs : List ℕ) (x : Composing xs ys r a a' b b' c c') where
  compose_is : r.refusal ≡ composition_refusal xs ys
  compose_is = composed_number x.call

  pub compose_refused : {out out' : List ℕ} {w : Listed} → (r.refusal ≡ 0 → ⊥) → Whole out out' w r.refusal (refused_text r.refusal)
      → Whole out out' w (listing_refusal xs ys cs) (text_of xs ys cs)
  unfolding text_of listing_refusal or_else
  compose_refused nonzero p =
      text_refused (listing_refusal xs ys cs) r.refusal (listing_text (lattice (labels_in cs) (composition xs ys)))
      (rw (← compose_is, ne_eqb r.refusal 0 nonzero)) nonzero p

  module _ (fine : r.refusal ≡ 0) where
    abbrev made : Composition xs ys
    made = composition_of x.call fine

    good_xs : Good (decode xs)
    good_xs = accepted_good xs x.left (composable made).left_good

    good_ys : Good (decode ys)
    good_ys = accepted_good ys x.right (composable made).right_good

    pub table_fits : r.len ≤ length a'
    table_fits = composed_fits made

    pub table_accepted : refusal (take r.len a') ≡ 0
    table_accepted = composition_accepted good_xs good_ys made

    pub table_listed : {out out' : List ℕ} {w : Listed}
        → Whole out out' w (applied_refusal (decode (take r.len a')) cs) (applied_text (decode (take r.len a')) cs)
        → Whole out out' w (listing_refusal xs ys cs) (text_of xs ys cs)
    unfolding text_of applied_text listing_refusal or_else
    table_listed p =
        let none : composition_refusal xs ys ≡ 0 = sym compose_is ∙ fine in
        let same : decode (take r.len a') ≡ composition xs ys = composition_read good_xs good_ys made in
        rw none (rw same at p)

-- The whole

pub says_short : (xs ys cs out : List ℕ) → length out < least_room
    → ListingSays xs ys cs (text_room (length out)) (record { refusal = 10; len = 0; said = 0 }) out out
unfolding text_room unless left_in
says_short xs ys cs out h = rw (lt-ltb (length out) least_room h) (record { refusal_is = refl; len_is = refl; said_is = refl; text = refl })

pub says_whole : {xs ys cs out out' : List ℕ} {w : Listed} → least_room ≤ length out → Whole out out' w (listing_refusal xs ys cs) (text_of xs ys cs)
    → ListingSays xs ys cs (text_room (length out)) w out out'
unfolding text_room unless left_in
says_whole {xs} {ys} {cs} {out} h p =
    rw (le-ltb (length out) least_room h) (record { refusal_is = p.refusal_is; len_is = p.len_is; said_is = p.said_is; text = p.bytes })

-- The text that is told of lies within the buffer.
pub says_fits : {xs ys cs : List ℕ} {short : ℕ} {w : Listed} {out out' : List ℕ} → ListingSays xs ys cs short w out out' → w.len ≤ length out'
unfolding unless left_in
says_fits {xs} {ys} {cs} {short} {w} {out} {out'} says =
    by_test (eqb short 0) (λ e. (front w.len out out' (text_of xs ys cs) (rw e at says.text) (rw e at says.len_is)).1)
    (λ e. let none : w.len ≡ 0 = rw e at says.len_is in omega arith)
