-- The search for a key along the chain of its bucket. `Searching` is the invariant of the loop, and `next` itself its measure. Assumes nothing.
use mathlib.Core.Path.{◌≡◌, sym, ap, ◌∙◌}
use mathlib.Core.Bool.{true, false}
use mathlib.Core.List.{List}
use Prim.Native.Nat.{ℕ, suc, ◌-◌, ◌≤◌, ◌<◌}
use native.Mathlib.Omega.{arith}
use borrow.Author.Tests.{leb-true, leb-false}
use lib.Dec.{eqb, leb}
use lib.ListN.{length, get_or}
use Rattle.explore.specs.Explore.{there, place}
use Rattle.explore.specs.Chain.{bucket_of, last_in, Chained}
use Rattle.wire.proofs.Bool.{by_test, is_false}
use Rattle.explore.proofs.Member.{At, Mem, at_length, at_get_or, get_d_at, at_there, there_mem, not_there_place, place_length}
use Rattle.explore.proofs.Distinct.{place_at}
use Rattle.explore.proofs.Chain.{eqb_decides, last_in_le, last_in_bucket, last_in_last, once_distinct, stored_at}

-- The number `next` is one more than the place of the last key of the bucket in front of `front`, or 0, and the key itself does not stand from `front` on.
pub record Searching (key : ℕ) (xs : List ℕ) (next : ℕ) : Type 0 where
  pub front : ℕ
  pub within : front ≤ length xs
  pub leads : next ≡ last_in (bucket_of key) front xs
  pub passed : (i : ℕ) → front ≤ i → i < length xs → get_or xs i 0 ≡ key → ⊥

module _ {xs states heads links : List ℕ} (chained : Chained xs states heads links) {key : ℕ} where
  module _ {next : ℕ} (s : Searching key xs next) where
    pub search_le : next ≤ length xs
    search_le =
        let low : last_in (bucket_of key) s.front xs ≤ s.front = last_in_le (bucket_of key) s.front xs in
        omega (arith, s.leads, s.within)

    -- Where the key stands, the search has yet to come.
    search_left : (i : ℕ) → i < length xs → get_or xs i 0 ≡ key → i < next
    search_left i l e =
        by_test (leb s.front i) (λ t. absurd (s.passed i (leb-true s.front i t) l e))
        (λ t.
        let in_front : i < last_in (bucket_of key) s.front xs =
        last_in_last (bucket_of key) s.front xs i (leb-false s.front i t) (ap bucket_of e) in
        omega (arith, s.leads))

    pub search_none : next ≡ 0 → (place eqb key xs ≡ length xs) × (there eqb key xs ≡ false)
    search_none end = (not_there_place eqb key xs absent, absent)
      where
        nowhere : Mem key xs → ⊥
        nowhere m =
            let i = m.number in
            let l : i < next = search_left i (at_length xs i key m.stands) (at_get_or xs i key 0 m.stands) in
            omega arith

        absent : there eqb key xs ≡ false
        absent = is_false (there eqb key xs) (λ t. nowhere (there_mem eqb_decides key xs t))

    module _ (more : next ≡ 0 → ⊥) where
      pub search_in : (next - 1 < length xs) × (get_or states (next - 1) 0 ≡ get_or xs (next - 1) 0)
      search_in =
          let l : next - 1 < length xs = omega (arith, search_le) in
          (l, stored_at chained (next - 1) l)

      -- The key at hand is of the bucket.
      search_bucket : bucket_of (get_or xs (next - 1) 0) ≡ bucket_of key
      search_bucket =
          let e : last_in (bucket_of key) s.front xs ≡ suc (next - 1) = omega (arith, s.leads) in
          last_in_bucket (bucket_of key) s.front xs (next - 1) e

      search_link : get_or links (next - 1) 0 ≡ last_in (bucket_of key) (next - 1) xs
      search_link = chained.links_are (next - 1) search_in.0 ∙ ap (λ (b : ℕ). last_in b (next - 1) xs) search_bucket

      pub search_less : get_or links (next - 1) 0 < next
      search_less =
          let low : last_in (bucket_of key) (next - 1) xs ≤ next - 1 = last_in_le (bucket_of key) (next - 1) xs in
          omega (arith, search_link)

      pub search_found : get_or states (next - 1) 0 ≡ key → (next - 1 ≡ place eqb key xs) × (there eqb key xs ≡ true)
      search_found is =
          let at : At xs (next - 1) key = rw (sym search_in.1 ∙ is) at (get_d_at xs (next - 1) 0 search_in.0) in
          (sym (place_at eqb_decides xs (next - 1) key (once_distinct xs chained.once) at), at_there eqb_decides xs (next - 1) key at)

      pub search_next : (get_or states (next - 1) 0 ≡ key → ⊥) → Searching key xs (get_or links (next - 1) 0)
      search_next other =
          let l : next - 1 < length xs = search_in.0 in
          record { front = next - 1; within = omega arith; leads = search_link; passed = beyond }
        where
          beyond : (i : ℕ) → next - 1 ≤ i → i < length xs → get_or xs i 0 ≡ key → ⊥
          beyond i p q e =
              let l : i < next = search_left i q e in
              let same : i ≡ next - 1 = omega arith in
              other (search_in.1 ∙ (rw same at e))

-- The number that a search gives is the length exactly where the key is new.
pub place_new : (key : ℕ) (xs : List ℕ) → place eqb key xs ≡ length xs → there eqb key xs ≡ false
place_new key xs e = is_false (there eqb key xs) (λ t. let l : place eqb key xs < length xs = place_length eqb key xs t in omega arith)

pub place_old : (key : ℕ) (xs : List ℕ) → (place eqb key xs ≡ length xs → ⊥) → there eqb key xs ≡ true
place_old key xs ne = by_test (there eqb key xs) (λ t. t) (λ t. absurd (ne (not_there_place eqb key xs t)))

pub place_le : (key : ℕ) (xs : List ℕ) → place eqb key xs ≤ length xs
place_le key xs =
    by_test (there eqb key xs) (λ t. let l : place eqb key xs < length xs = place_length eqb key xs t in omega arith)
    (λ t. omega (arith, not_there_place eqb key xs t))
