-- Laws of `bucket_of`, `last_in`, `Once` and `Chained`. Assumes nothing.
use mathlib.Core.Path.{◌≡◌, refl, sym, ap, ◌∙◌}
use mathlib.Core.Bool.{true, false}
use mathlib.Core.List.{List, [], ◌∷◌, ◌++◌}
use Prim.Native.Nat.{ℕ, zero, suc, ◌+◌, ◌≤◌, ◌<◌}
use native.Mathlib.Nat.{not-suc-le-zero}
use native.Mathlib.Numerals.{add-one}
use native.Mathlib.Omega.{arith}
use borrow.Author.Tests.{eqb-true, eqb-false, eq-eqb, ne_eqb}
use lib.Dec.{eqb}
use lib.ListN.{length, get_or, set, replicate, length-append, length-set, length-replicate, get_or-replicate, get_or-append}
use lib.Seq.{take-suc-set, get_or-take, get_or-set_same, get_or-set_other, get_or-append_seam}
use Rattle.explore.specs.Explore.{Decides, there}
use Rattle.transducer.specs.Format.{max_states}
use Rattle.explore.specs.Chain.{buckets, bucket_of, last_in, Once, Chained}
use Rattle.wire.proofs.Bool.{by_test}
use Rattle.explore.proofs.Member.{at_length, at_get_or, get_d_at}
use Rattle.explore.proofs.Distinct.{Distinct, distinct_snoc, distinct_at, at_distinct}

pub eqb_decides : Decides eqb
eqb_decides = record { sound = eqb-true; complete = λ x. eq-eqb x x refl }

pub bucket_of_lt : (key : ℕ) → bucket_of key < buckets
unfolding bucket_of
bucket_of_lt key = omega arith

-- last_in

pub last_in_here : (b n : ℕ) (xs : List ℕ) → bucket_of (get_or xs n 0) ≡ b → last_in b (suc n) xs ≡ suc n
unfolding last_in
last_in_here b n xs e = rw (eq-eqb (bucket_of (get_or xs n 0)) b e)

pub last_in_not_here : (b n : ℕ) (xs : List ℕ) → (bucket_of (get_or xs n 0) ≡ b → ⊥) → last_in b (suc n) xs ≡ last_in b n xs
unfolding last_in
last_in_not_here b n xs e = rw (ne_eqb (bucket_of (get_or xs n 0)) b e)

pub last_in_le : (b n : ℕ) (xs : List ℕ) → last_in b n xs ≤ n
unfolding last_in
last_in_le b zero xs = omega arith
last_in_le b (suc n) xs =
    let less : last_in b n xs ≤ n = last_in_le b n xs in
    by_test (eqb (bucket_of (get_or xs n 0)) b) (λ e. rw e (omega arith)) (λ e. rw e (omega arith))

-- What it names is in the bucket.
pub last_in_bucket : (b n : ℕ) (xs : List ℕ) (i : ℕ) → last_in b n xs ≡ suc i → bucket_of (get_or xs i 0) ≡ b
unfolding last_in
last_in_bucket b zero xs i h = absurd (omega arith)
last_in_bucket b (suc n) xs i h =
    by_test (eqb (bucket_of (get_or xs n 0)) b)
    (λ e. let same : suc n ≡ suc i = rw e at h in let q : n ≡ i = omega arith in rw (← q) (eqb-true (bucket_of (get_or xs n 0)) b e))
    (λ e. last_in_bucket b n xs i (rw e at h))

-- Nothing of the bucket stands between it and n.
pub last_in_last : (b n : ℕ) (xs : List ℕ) (i : ℕ) → i < n → bucket_of (get_or xs i 0) ≡ b → i < last_in b n xs
unfolding last_in
last_in_last b zero xs i l e = absurd (not-suc-le-zero l)
last_in_last b (suc n) xs i l e = by_test (eqb (bucket_of (get_or xs n 0)) b) (λ t. rw t l) (λ t. rw t (last_in_last b n xs i (below t) e))
  where
    below : eqb (bucket_of (get_or xs n 0)) b ≡ false → i < n
    below t =
        let other : i ≡ n → ⊥ = λ q. eqb-false (bucket_of (get_or xs n 0)) b t (rw q at e) in
        omega arith

pub last_in_append : (b n : ℕ) (xs ys : List ℕ) → n ≤ length xs → last_in b n (xs ++ ys) ≡ last_in b n xs
unfolding last_in
last_in_append b zero xs ys h = refl
last_in_append b (suc n) xs ys h = rw (get_or-append xs ys 0 n h, last_in_append b n xs ys (omega arith))

-- Once

pub once_distinct : (xs : List ℕ) → Once xs → Distinct eqb xs
unfolding Once
once_distinct xs once =
    at_distinct eqb_decides xs
    (λ i j x p q. once i j (at_length xs i x p) (at_length xs j x q) (at_get_or xs i x 0 p ∙ sym (at_get_or xs j x 0 q)))

pub distinct_once : (xs : List ℕ) → Distinct eqb xs → Once xs
unfolding Once
distinct_once xs d = λ i j p q e. distinct_at eqb_decides xs i j (get_or xs j 0) d (rw e at (get_d_at xs i 0 p)) (get_d_at xs j 0 q)

pub once_snoc : (xs : List ℕ) (key : ℕ) → Once xs → there eqb key xs ≡ false → Once (xs ++ (key ∷ []))
once_snoc xs key once new = distinct_once (xs ++ (key ∷ [])) (distinct_snoc eqb_decides xs key (once_distinct xs once) new)

-- Chained

pub stored_at : {xs states heads links : List ℕ} → Chained xs states heads links → (i : ℕ) → i < length xs → get_or states i 0 ≡ get_or xs i 0
stored_at {xs} {states} chained i l =
    sym (get_or-take (length xs) states i 0 l) ∙ ap (λ (ys : List ℕ). get_or ys i 0) chained.stored

-- No key is stored yet.
pub chained_first : (states heads links : List ℕ) → max_states ≤ length states → length heads ≡ buckets → length links ≡ max_states
    → ((b : ℕ) → b < buckets → get_or heads b 0 ≡ 0) → Chained [] states heads links
unfolding last_in Once
chained_first states heads links room heads_long links_long zeros =
    record {
      stored = refl;
      few = omega arith;
      room = room;
      heads_long = heads_long;
      links_long = links_long;
      once = λ i j p q e. absurd (not-suc-le-zero p);
      heads_are = zeros;
      links_are = λ i l. absurd (not-suc-le-zero l);
    }

pub chained_zeros : (states : List ℕ) → max_states ≤ length states → Chained [] states (replicate buckets 0) (replicate max_states 0)
chained_zeros states room =
    chained_first states (replicate buckets 0) (replicate max_states 0) room (length-replicate {A = ℕ} buckets 0) (length-replicate {A = ℕ} max_states 0)
    (λ b l. get_or-replicate buckets b 0 0 l)

-- A new key is stored, in front of the chain of its bucket.
module _ (xs : List ℕ) (key : ℕ) where
  length_snoc : length (xs ++ (key ∷ [])) ≡ suc (length xs)
  length_snoc = length-append xs (key ∷ []) ∙ add-one (length xs)

  get_or_snoc : get_or (xs ++ (key ∷ [])) (length xs) 0 ≡ key
  get_or_snoc = get_or-append_seam xs key [] 0

  heads_next : (heads : List ℕ) (b : ℕ) → bucket_of key < length heads → get_or heads b 0 ≡ last_in b (length xs) xs
      → get_or (set heads (bucket_of key) (length xs + 1)) b 0 ≡ last_in b (suc (length xs)) (xs ++ (key ∷ []))
  heads_next heads b l is = by_test (eqb (bucket_of key) b) here other
    where
      here : eqb (bucket_of key) b ≡ true
          → get_or (set heads (bucket_of key) (length xs + 1)) b 0 ≡ last_in b (suc (length xs)) (xs ++ (key ∷ []))
      here t =
          let e : bucket_of key ≡ b = eqb-true (bucket_of key) b t in
          rw (← e)
          (get_or-set_same heads (bucket_of key) (length xs + 1) 0 l
          ∙ add-one (length xs)
          ∙ sym (last_in_here (bucket_of key) (length xs) (xs ++ (key ∷ [])) (ap bucket_of get_or_snoc)))

      other : eqb (bucket_of key) b ≡ false
          → get_or (set heads (bucket_of key) (length xs + 1)) b 0 ≡ last_in b (suc (length xs)) (xs ++ (key ∷ []))
      other t =
          let ne : bucket_of key ≡ b → ⊥ = eqb-false (bucket_of key) b t in
          get_or-set_other heads (bucket_of key) b (length xs + 1) 0 (λ e. ne (sym e))
          ∙ is
          ∙ sym (last_in_append b (length xs) xs (key ∷ []) (omega arith))
          ∙ sym (last_in_not_here b (length xs) (xs ++ (key ∷ [])) (λ e. ne (sym (ap bucket_of get_or_snoc) ∙ e)))

  links_next : (links : List ℕ) (head i : ℕ) → length xs < length links → head ≡ last_in (bucket_of key) (length xs) xs
      → (i < length xs → get_or links i 0 ≡ last_in (bucket_of (get_or xs i 0)) i xs) → i < suc (length xs)
      → get_or (set links (length xs) head) i 0 ≡ last_in (bucket_of (get_or (xs ++ (key ∷ [])) i 0)) i (xs ++ (key ∷ []))
  links_next links head i l is are below = by_test (eqb i (length xs)) here other
    where
      here : eqb i (length xs) ≡ true
          → get_or (set links (length xs) head) i 0 ≡ last_in (bucket_of (get_or (xs ++ (key ∷ [])) i 0)) i (xs ++ (key ∷ []))
      here t =
          let e : i ≡ length xs = eqb-true i (length xs) t in
          rw (e, get_or_snoc, last_in_append (bucket_of key) (length xs) xs (key ∷ []) (omega arith))
          (get_or-set_same links (length xs) head 0 l ∙ is)

      other : eqb i (length xs) ≡ false
          → get_or (set links (length xs) head) i 0 ≡ last_in (bucket_of (get_or (xs ++ (key ∷ [])) i 0)) i (xs ++ (key ∷ []))
      other t =
          let ne : i ≡ length xs → ⊥ = eqb-false i (length xs) t in
          let less : i < length xs = omega arith in
          rw (get_or-append xs (key ∷ []) 0 i less, last_in_append (bucket_of (get_or xs i 0)) i xs (key ∷ []) (omega arith))
          (get_or-set_other links (length xs) i head 0 ne ∙ are less)

  chained_snoc : (states heads links : List ℕ) → length xs < max_states → there eqb key xs ≡ false → Chained xs states heads links
      → Chained (xs ++ (key ∷ [])) (set states (length xs) key) (set heads (bucket_of key) (length xs + 1))
      (set links (length xs) (get_or heads (bucket_of key) 0))
  chained_snoc states heads links less new chained =
      let head = get_or heads (bucket_of key) 0 in
      let bound : bucket_of key < buckets = bucket_of_lt key in
      record {
        stored = rw (length_snoc, take-suc-set states (length xs) key (omega (arith, chained.room)), chained.stored);
        few = rw length_snoc less;
        room = rw (length-set states (length xs) key) chained.room;
        heads_long = length-set heads (bucket_of key) (length xs + 1) ∙ chained.heads_long;
        links_long = length-set links (length xs) head ∙ chained.links_long;
        once = once_snoc xs key chained.once new;
        heads_are = λ b l. rw length_snoc (heads_next heads b (omega (arith, chained.heads_long)) (chained.heads_are b l));
        links_are = λ i l.
            links_next links head i (omega (arith, chained.links_long)) (chained.heads_are (bucket_of key) bound) (chained.links_are i)
            (rw length_snoc at l);
      }

-- The same in the words of the code: a number for the length, and one for the bucket.
pub chained_next : (xs states heads links : List ℕ) (count b key : ℕ) → length xs ≡ count → b ≡ bucket_of key → count < max_states
    → there eqb key xs ≡ false → Chained xs states heads links
    → Chained (xs ++ (key ∷ [])) (set states count key) (set heads b (count + 1)) (set links count (get_or heads b 0))
chained_next xs states heads links count b key long is less new chained =
    rw (is, ← long) (chained_snoc xs key states heads links (omega arith) new chained)
