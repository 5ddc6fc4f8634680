-- The laws of weights: an ordered commutative group; which are in range; their codes; and that a weight which was good while weights had no
-- sign is read as it was. `sums` makes `omega` prove what is linear in weights, so that no proof above opens one. Assumes nothing.
use Rattle.std.proofs.Common.{◌≡◌, ℕ, ◌+◌, ◌-◌, ◌^◌, ◌<◌, ◌≤◌, true, List, pos, negsuc, ◌+ℤ◌, ◌-ℤ◌, neg_ℤ, nat_abs, sym, refl, ap, ◌∙◌, arith, w32, w64, SFits}
use lib.Signed.{le_z}
use Rattle.wire.specs.Bytes.{four}
use Rattle.wire.proofs.Bool.{and-true, true_and}
pub use Rattle.wire.proofs.Ints.{sums, sum, either}
use Rattle.wire.proofs.Ints.{over, under, size, minus}
use Rattle.wire.proofs.Signed.{signed_four_small}
use Rattle.transducer.specs.Format.{weight_limit, max_weight, min_weight, weight_good, weight_at}
use Rattle.transducer.specs.Accepted.{max_code}
use Rattle.transducer.specs.Weight.{Weight, no_weight, rebate, plus, AtMost, magnitude, code_of, weight_of}

-- Sums

pub plus_none : (a : Weight) → plus a no_weight ≡ a
plus_none a = omega (arith, sums)

pub none_plus : (a : Weight) → plus no_weight a ≡ a
none_plus a = omega (arith, sums)

pub plus_assoc : (a b c : Weight) → plus (plus a b) c ≡ plus a (plus b c)
plus_assoc a b c = omega (arith, sums, sum a b, sum b c)

pub plus_behind : (a b c : Weight) → plus a (plus b c) ≡ plus b (plus a c)
plus_behind a b c = omega (arith, sums, sum b c, sum a c)

pub plus_across : (a b c d : Weight) → plus (plus a b) (plus c d) ≡ plus (plus a c) (plus b d)
plus_across a b c d = omega (arith, sums, sum a b, sum c d, sum a c, sum b d)

pub rebate_plus : (a b : ℕ) → plus (rebate a) (rebate b) ≡ rebate (a + b)
rebate_plus a b = omega (arith, sums, minus (pos a), minus (pos b), minus (pos (a + b)))

-- The order agrees with sums.

pub most_trans : (a b c : Weight) → AtMost a b → AtMost b c → AtMost a c
most_trans a b c p q = omega (arith, sums)

pub most_both : (a b : Weight) → AtMost a b → AtMost b a → a ≡ b
most_both a b p q = omega (arith, sums)

-- Magnitudes

pub magnitude_is : (w : Weight) → magnitude w ≡ over w + under w
magnitude_is (pos n) = omega arith
magnitude_is (negsuc n) = omega arith

pub magnitude_plus : (a b : Weight) → magnitude (plus a b) ≤ magnitude a + magnitude b
magnitude_plus a b = omega (arith, magnitude_is a, magnitude_is b, magnitude_is (plus a b), sum a b, size (plus a b))

pub magnitude_fits : (a : Weight) → magnitude a < 2 ^ 63 → SFits w64 a
magnitude_fits a h = record { sfits = omega (arith, magnitude_is a, size a) }

-- Range

pub record InRange (w : Weight) : Type 0 where
  pub low : AtMost min_weight w
  pub high : AtMost w max_weight

pub good_range : (w : Weight) → weight_good w ≡ true → InRange w
unfolding weight_good
good_range w h =
    let both : (le_z min_weight w ≡ true) × (le_z w max_weight ≡ true) = and-true (le_z min_weight w) (le_z w max_weight) h in
    record { low = omega (arith, sums, both.0); high = omega (arith, sums, both.1) }

pub range_good : (w : Weight) → InRange w → weight_good w ≡ true
unfolding weight_good
range_good w r =
    let low : le_z min_weight w ≡ true = omega (arith, sums, r.low) in
    let high : le_z w max_weight ≡ true = omega (arith, sums, r.high) in
    true_and (le_z min_weight w) (le_z w max_weight) low high

pub none_good : weight_good no_weight ≡ true
none_good = range_good no_weight (record { low = omega (arith, sums); high = omega (arith, sums) })

-- A weight of at most the largest size, of either sign, is good.
pub size_good : (w : Weight) → magnitude w ≤ weight_limit → weight_good w ≡ true
size_good w h = range_good w (on w h)
  where
    on : (v : Weight) → magnitude v ≤ weight_limit → InRange v
    on (pos n) l = record { low = omega (arith, sums); high = omega (arith, sums) }
    on (negsuc n) l = record { low = omega (arith, sums); high = omega (arith, sums) }

pub good_size : (w : Weight) → weight_good w ≡ true → magnitude w ≤ weight_limit
good_size w h = let r = good_range w h in omega (arith, sums, magnitude_is w, size w, r.low, r.high)

-- A good weight, and the sum of two, are 32-bit numbers.
pub good_fits : (w : Weight) → weight_good w ≡ true → SFits w32 w
good_fits w h = let r = good_range w h in record { sfits = omega (arith, sums, size w, r.low, r.high) }

pub plus_fits : (a b : Weight) → weight_good a ≡ true → weight_good b ≡ true → SFits w32 (plus a b)
plus_fits a b p q =
    let r = good_range a p in
    let s = good_range b q in
    record { sfits = omega (arith, sums, sum a b, size (plus a b), r.low, r.high, s.low, s.high) }

-- Codes

pub code_some : (w : Weight) → code_of w ≡ 0 → ⊥
unfolding code_of
code_some w e = omega arith

-- A weight from the least on is as much above it as its code says.
pub above_least : (w : Weight) → AtMost min_weight w → w -ℤ min_weight ≡ pos (nat_abs (w -ℤ min_weight))
above_least w h = on (w -ℤ min_weight) (omega (arith, sums, sum w (neg_ℤ min_weight)))
  where
    on : (v : Weight) → AtMost (pos 0) v → v ≡ pos (nat_abs v)
    on (pos n) p = refl
    on (negsuc n) p = absurd (omega (arith, sums))

pub above_fits : (w : Weight) → weight_good w ≡ true → SFits w32 (w -ℤ min_weight)
above_fits w h =
    let r = good_range w h in
    record { sfits = omega (arith, sums, sum w (neg_ℤ min_weight), size (w -ℤ min_weight), r.low, r.high) }

pub weight_code : (w : Weight) → weight_good w ≡ true → weight_of (code_of w) ≡ w
unfolding weight_of code_of
weight_code w h =
    let n : ℕ = nat_abs (w -ℤ min_weight) in
    let back : n + 1 - 1 ≡ n = omega arith in
    let e : w -ℤ min_weight ≡ pos n = above_least w (good_range w h).low in
    ap (λ (z : Weight). z +ℤ min_weight) (ap pos back ∙ sym e) ∙ omega (arith, sums, sum w (neg_ℤ min_weight))

pub code_most : (w : Weight) → weight_good w ≡ true → code_of w ≤ max_code
unfolding code_of
code_most w h =
    let r = good_range w h in
    let e : w -ℤ min_weight ≡ pos (nat_abs (w -ℤ min_weight)) = above_least w r.low in
    omega (arith, sums, sum w (neg_ℤ min_weight), e, r.high)

pub weight_of_fits : (code : ℕ) → code ≤ max_code → SFits w32 (pos (code - 1) +ℤ min_weight)
weight_of_fits code high = record { sfits = omega (arith, sums, sum (pos (code - 1)) min_weight, size (pos (code - 1) +ℤ min_weight)) }

pub weight_of_good : (code : ℕ) → 1 ≤ code → code ≤ max_code → weight_good (weight_of code) ≡ true
unfolding weight_of
weight_of_good code low high =
    range_good (pos (code - 1) +ℤ min_weight) (record { low = omega (arith, sums); high = omega (arith, sums) })

-- What four bytes were as a weight while weights had no sign, they are now.
pub weight_as_before : (bs : List ℕ) (at : ℕ) → four bs at ≤ weight_limit → (weight_at bs at ≡ pos (four bs at)) × (weight_good (weight_at bs at) ≡ true)
unfolding weight_at
weight_as_before bs at h =
    let e = signed_four_small bs at (omega arith) in
    (e, rw e (size_good (pos (four bs at)) h))
