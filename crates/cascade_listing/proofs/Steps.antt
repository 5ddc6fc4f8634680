-- From what the cascade answers to the text of its listing. Assumes nothing.
use mathlib.Core.Path.{◌≡◌, refl, sym, ap, ◌∙◌}
use mathlib.Core.Bool.{true}
use mathlib.Core.List.{List}
use Prim.Native.Nat.{ℕ, ◌%◌, ◌≤◌, ◌<◌}
use native.Mathlib.Omega.{arith}
use borrow.Author.Tests.{eqb-true, eqb-false, eq-eqb, ne_eqb, lt-ltb, le-ltb}
use lib.Dec.{eqb}
use lib.ListN.{length, take}
use Rattle.wire.specs.Bytes.{Bytes}
use Rattle.wire.proofs.Bool.{by_test}
use Rattle.transducer.specs.Answer.{Written}
use Rattle.transducer.specs.Format.{max_states, max_bytes, max_origins, refusal, decode}
use Rattle.transducer.specs.Entry.{or_else, unless, left_in}
use Rattle.transducer.proofs.Answers.{some_or_else, none_or_else}
use Rattle.compose.specs.Entry.{compose_room}
use Rattle.lattice.specs.Apply.{string_good}
use Rattle.lattice.specs.ApplyEntry.{application_refusal}
use Rattle.cascade.specs.Entry.{cascade, tables_refusal, cascade_refusal, CascadeSays}
use Rattle.cascade.specs.Cascade.{Cascaded}
use Rattle.cascade.proofs.Cascaded.{passed, cascaded_fits, cascaded_accepted, cascaded_read}
use Rattle.listing.specs.Answer.{Listed}
use Rattle.listing.specs.Code.{labels_in, most_loaded}
use Rattle.listing.specs.Text.{listing_text, refused_text, least_room, Whole}
use Rattle.listing.specs.Entry.{applied_refusal, text_room}
use Rattle.listing.proofs.Steps.{front, text_refused, text_kept, good_whole, taken_good}
use Rattle.cascade_listing.specs.Entry.{cascade_listing_refusal, cascade_text, CascadeListingSays}

-- A refusal that comes first, or the other one, is a refusal.
pub some_other : (a b : ℕ) → (b ≡ 0 → ⊥) → or_else a b ≡ 0 → ⊥
some_other a b bad none =
    by_test (eqb a 0) (λ e. bad (sym (none_or_else a b (eqb-true a 0 e)) ∙ none))
    (λ e. eqb-false a 0 e (sym (some_or_else a b (eqb-false a 0 e)) ∙ none))

-- An odd last byte

-- A refusal of the two transducers comes before 9.
pub tables_first : {out out' : List ℕ} {w : Listed} (a n : ℕ) → n ≡ a → (n ≡ 0 → ⊥) → Whole out out' w n (refused_text n)
    → Whole out out' w (or_else a 9) (refused_text (or_else a 9))
tables_first a n is bad p =
    let first : or_else a 9 ≡ n = some_or_else a 9 (λ z. bad (is ∙ z)) ∙ sym is in
    rw first p

pub nine_last : {out out' : List ℕ} {w : Listed} (a : ℕ) → 0 ≡ a → Whole out out' w 9 (refused_text 9)
    → Whole out out' w (or_else a 9) (refused_text (or_else a 9))
nine_last a none p =
    let last : or_else a 9 ≡ 9 = none_or_else a 9 (sym none) in
    rw last p

pub odd_refused : {out out' : List ℕ} {w : Listed} (xs ys cs : List ℕ) → (length cs % 2 ≡ 0 → ⊥)
    → Whole out out' w (or_else (tables_refusal xs ys) 9) (refused_text (or_else (tables_refusal xs ys) 9))
    → Whole out out' w (cascade_listing_refusal xs ys cs) (cascade_text xs ys cs)
unfolding cascade_text cascade_listing_refusal applied_refusal or_else
odd_refused xs ys cs odd p =
    text_refused (cascade_listing_refusal xs ys cs) (or_else (tables_refusal xs ys) 9) (listing_text (cascade xs ys (labels_in cs)))
    (rw (ne_eqb (length cs % 2) 0 odd)) (some_other (tables_refusal xs ys) 9 (λ z. omega arith)) p

-- The call with the table

-- The labels of a code and the two transducers were handed to the cascade, with buffers of the least lengths.
pub record Calling (xs ys cs s : List ℕ) (r : Written) (a a' b b' c c' : List ℕ) : Type 0 where
  pub left : Bytes xs
  pub right : Bytes ys
  pub even : length cs % 2 ≡ 0
  pub string : s ≡ take most_loaded (labels_in cs)
  pub table_room : length a ≡ max_bytes
  pub origins_room : length b ≡ max_origins
  pub states_room : length c ≡ max_states
  pub says : CascadeSays xs ys s (cascade_refusal xs ys s (length a) (length b) (length c)) r a a' b b' c c'

same_number : (xs ys cs s : List ℕ) → length cs % 2 ≡ 0 → s ≡ take most_loaded (labels_in cs)
    → cascade_refusal xs ys s max_bytes max_origins max_states ≡ cascade_listing_refusal xs ys cs
unfolding cascade_refusal cascade_listing_refusal applied_refusal application_refusal compose_room or_else
same_number xs ys cs s even e =
    by_test (string_good (labels_in cs)) (λ g. rw (e, good_whole (labels_in cs) g, g, eq-eqb (length cs % 2) 0 even))
    (λ g. rw (e, taken_good (labels_in cs), g, eq-eqb (length cs % 2) 0 even))

module _ {xs ys cs s : List ℕ} {r : Written} {a a' b b' c c' : List ℕ} (x : Calling xs ys cs s r a a' b b' c c') where
  number_is : r.refusal ≡ cascade_listing_refusal xs ys cs
  number_is = x.says.refusal_is ∙ (rw (x.table_room, x.origins_room, x.states_room) (same_number xs ys cs s x.even x.string))

  pub call_refused : {out out' : List ℕ} {w : Listed} → (r.refusal ≡ 0 → ⊥) → Whole out out' w r.refusal (refused_text r.refusal)
      → Whole out out' w (cascade_listing_refusal xs ys cs) (cascade_text xs ys cs)
  unfolding cascade_text
  call_refused bad p =
      text_refused (cascade_listing_refusal xs ys cs) r.refusal (listing_text (cascade xs ys (labels_in cs))) (sym number_is) bad p

  module _ (fine : r.refusal ≡ 0) where
    abbrev called : Cascaded xs ys s
    called =
        record {
          left_bytes = x.left;
          right_bytes = x.right;
          answer = r;
          table = a;
          table_left = a';
          origins = b;
          origins_left = b';
          states = c;
          states_left = c';
          says = x.says;
          well = fine;
        }

    pub call_fits : r.len ≤ length a'
    call_fits = cascaded_fits called

    pub call_accepted : refusal (take r.len a') ≡ 0
    call_accepted = cascaded_accepted called

    -- The string is whole among the labels loaded.
    whole : s ≡ labels_in cs
    whole =
        let good : string_good s ≡ true =
        (passed xs ys s (length a) (length b) (length c) (sym x.says.refusal_is ∙ fine)).appliable.string in
        x.string ∙ good_whole (labels_in cs) (sym (taken_good (labels_in cs)) ∙ ap string_good (sym x.string) ∙ good)

    pub call_listed : {out out' : List ℕ} {w : Listed} → Whole out out' w 0 (listing_text (decode (take r.len a')))
        → Whole out out' w (cascade_listing_refusal xs ys cs) (cascade_text xs ys cs)
    unfolding cascade_text
    call_listed p =
        let same : decode (take r.len a') ≡ cascade xs ys (labels_in cs) = cascaded_read called ∙ ap (cascade xs ys) whole in
        text_kept (cascade_listing_refusal xs ys cs) (listing_text (cascade xs ys (labels_in cs))) (sym number_is ∙ fine) (rw same at p)

-- The whole

pub says_short : (xs ys cs out : List ℕ) → length out < least_room
    → CascadeListingSays xs ys cs (text_room (length out)) (record { refusal = 10; len = 0; said = 0 }) out out
unfolding text_room unless left_in
says_short xs ys cs out h = rw (lt-ltb (length out) least_room h) (record { refusal_is = refl; len_is = refl; said_is = refl; text = refl })

pub says_whole : {xs ys cs out out' : List ℕ} {w : Listed} → least_room ≤ length out
    → Whole out out' w (cascade_listing_refusal xs ys cs) (cascade_text xs ys cs) → CascadeListingSays xs ys cs (text_room (length out)) w out out'
unfolding text_room unless left_in
says_whole {xs} {ys} {cs} {out} h p =
    rw (le-ltb (length out) least_room h) (record { refusal_is = p.refusal_is; len_is = p.len_is; said_is = p.said_is; text = p.bytes })

-- The text that is told of lies within the buffer.
pub says_fits : {xs ys cs : List ℕ} {short : ℕ} {w : Listed} {out out' : List ℕ} → CascadeListingSays xs ys cs short w out out' → w.len ≤ length out'
unfolding unless left_in
says_fits {xs} {ys} {cs} {short} {w} {out} {out'} says =
    by_test (eqb short 0) (λ e. (front w.len out out' (cascade_text xs ys cs) (rw e at says.text) (rw e at says.len_is)).1)
    (λ e. let none : w.len ≡ 0 = rw e at says.len_is in omega arith)
