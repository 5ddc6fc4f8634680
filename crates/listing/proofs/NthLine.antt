-- A path walked to and told is its line, and the listing in each case. Assumes nothing.
use mathlib.Core.Path.{◌≡◌, refl, sym, ap, ◌∙◌}
use mathlib.Core.Bool.{true, false}
use mathlib.Core.List.{List, ◌∷◌, ◌++◌}
use Prim.Native.Nat.{ℕ, ◌+◌, ◌*◌, ◌-◌, ◌≤◌, ◌<◌, min}
use native.Mathlib.Omega.{arith}
use borrow.Author.Tests.{ltb-true, ltb-false, lt-ltb, le-ltb}
use lib.Dec.{ltb}
use lib.ListN.{length, take, replicate, length-append}
use lib.Seq.{take_at}
use Rattle.wire.specs.Bytes.{filled}
use Rattle.wire.proofs.Places.{length_filled}
use Rattle.wire.proofs.Bool.{by_test}
use Rattle.transducer.specs.Format.{Transducer, max_path}
use Rattle.transducer.specs.Path.{written_by}
use Rattle.transducer.specs.Entry.{unless, cost_unless, left_in}
use Rattle.transducer.specs.Weight.{magnitude}
use Rattle.std.proofs.Common.{◌^◌, SFits, w64}
use Rattle.std.proofs.lemmas.Int.{fits_signed_from_abs}
use Rattle.report.specs.Answer.{Told}
use Rattle.paths.specs.Count.{endless, path_count, nth_path, most_counted}
use Rattle.report.specs.Tell.{Tells}
use Rattle.paths.proofs.Ready.{Sized}
use Rattle.paths.proofs.NthSays.{Found}
use Rattle.listing.specs.Text.{decimal, newline, readings_word, endless_word, many_word, line, line_of, lines}
use Rattle.listing.specs.Text.{counted_text, listing_text, least_room}
use Rattle.listing.proofs.Decimal.{two_digits}
use Rattle.listing.proofs.Short.{Listable, listable, lines_short}

-- The k-th path, walked to and told.

pub record Got (t : Transducer) (k : ℕ) (r : Told) (labels : List ℕ) : Type 0 where
  pub inside : r.labels ≤ length labels
  pub cost_fits : SFits w64 r.cost
  pub is_line : line k r.cost (take r.labels labels) ≡ line_of t k

pub got : (t : Transducer) → Sized t → {k len : ℕ} {r : Told} {a b b' : List ℕ} → endless t ≡ false → k < path_count t → max_path ≤ length b
    → Found t k len a → Tells t (take len a) r b b' → Got t k r b'
unfolding unless cost_unless left_in line_of filled
got t z {k} {len} {r} {a} {b} {b'} finite there room path told' =
    let told : Tells t (nth_path t k) r b b' = rw path.taken at told' in
    let known : Listable t k = listable t z finite k there in
    let w : List ℕ = written_by t (nth_path t k) in
    let few : length w ≤ max_path = known.few in
    let many : r.labels ≡ length w = told.labels_is in
    let put : b' ≡ filled (length b) w = told.labels in
    let long : length b' ≡ length b = ap length put ∙ length_filled (length b) w (omega arith) in
    let taken : take r.labels b' ≡ w = ap (λ (x : List ℕ). take r.labels x) put ∙ take_at w (replicate (length b - length w) 0) r.labels (sym many) in
    let low : magnitude r.cost < 2 ^ 63 = rw told.cost_is (omega (arith, known.cost)) in
    record { inside = omega arith; cost_fits = fits_signed_from_abs w64 r.cost low; is_line = rw (told.cost_is, taken) }

-- The listing in each case.

pub listing_endless : (t : Transducer) → endless t ≡ true → listing_text t ≡ readings_word ++ endless_word
unfolding listing_text
listing_endless t e = rw e

pub listing_finite : (t : Transducer) → endless t ≡ false → listing_text t ≡ readings_word ++ counted_text t
unfolding listing_text
listing_finite t e = rw e

pub counted_many : (t : Transducer) (count : ℕ) → count ≡ path_count t → most_counted ≤ count → counted_text t ≡ many_word
unfolding counted_text
counted_many t count c h = rw (← c, le-ltb count most_counted h)

pub counted_few : (t : Transducer) (count : ℕ) → count ≡ path_count t → count < most_counted → counted_text t ≡ decimal count ++ (newline ∷ lines t count)
unfolding counted_text
counted_few t count c h = rw (← c, lt-ltb count most_counted h)

-- The whole listing fits.
pub listing_short : (t : Transducer) → Sized t → length (listing_text t) ≤ least_room
unfolding readings_word endless_word many_word
listing_short t z =
    by_test (endless t) (λ e. rw (listing_endless t e) (omega arith))
    (λ e. rw (listing_finite t e) (by_test (ltb (path_count t) most_counted) (λ l. few e (ltb-true (path_count t) most_counted l))
    (λ l. rw (counted_many t (path_count t) refl (ltb-false (path_count t) most_counted l)) (omega arith))))
  where
    few : endless t ≡ false → path_count t < most_counted → length (readings_word ++ counted_text t) ≤ least_room
    few e h =
        let count : length (decimal (path_count t)) ≤ 2 = two_digits (path_count t) (omega arith) in
        let all : length (lines t (path_count t)) + min (path_count t) 10 ≤ 6153 * path_count t =
        lines_short t (path_count t) (omega arith) (λ k l. listable t z e k l) in
        rw (counted_few t (path_count t) refl h, length-append (decimal (path_count t)) (newline ∷ lines t (path_count t))) (omega arith)
