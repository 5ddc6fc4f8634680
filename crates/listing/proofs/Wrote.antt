-- Texts written one behind the other. Assumes nothing.
use mathlib.Core.Path.{◌≡◌, refl, sym, ◌∙◌}
use mathlib.Core.List.{List, [], ◌++◌}
use Prim.Native.Nat.{ℕ, ◌+◌, ◌≤◌}
use native.Mathlib.Omega.{arith}
use lib.ListN.{length, length-append}
use lib.Seq.{sets-eq}
use borrow.Rule.Slice.PartMut.{put_mid}
use Rattle.wire.specs.Bytes.{cleared, filled}
use Rattle.wire.proofs.Places.{sets_append, put_mid_sets, cleared_front}
use Rattle.listing.specs.Text.{least_room, Wrote, Whole}

pub wrote_none : (out : List ℕ) (at : ℕ) → Wrote out out at at []
wrote_none out at = record { ends = omega arith; bytes = refl }

pub wrote_then : {a b c : List ℕ} {at mid end : ℕ} {xs ys : List ℕ} → Wrote a b at mid xs → Wrote b c mid end ys → Wrote a c at end (xs ++ ys)
wrote_then {a} {b} {c} {at} {mid} {end} {xs} {ys} p q =
    record {
      ends = rw (length-append xs ys) (omega (arith, p.ends, q.ends));
      bytes = q.bytes ∙ (rw (p.bytes, p.ends) (sym (sets_append a at xs ys)));
    }

-- A text copied to a part of what it is written in.
pub wrote_part : (out text part : List ℕ) (at n : ℕ) → at + length text ≤ length out → part ≡ text → n ≡ length text
    → Wrote out (put_mid at n out part) at (at + length text) text
wrote_part out text part at n fits same long = record { ends = refl; bytes = put_mid_sets at n out part text fits long same }

-- A text at the front with zeros behind.
wrote_front : {a b : List ℕ} {end : ℕ} {xs : List ℕ} → Wrote a b 0 end xs → length xs ≤ length a → cleared end b ≡ filled (length a) xs
wrote_front {a} {b} {end} {xs} p h =
    let e : length xs ≡ end = omega (arith, p.ends) in
    let behind : 0 + length xs ≡ end = omega arith in
    rw (p.bytes, sets-eq xs a 0 (omega arith), behind) (cleared_front end xs a e (omega arith))

pub wrote_whole : {a b c : List ℕ} {end : ℕ} {xs : List ℕ} → Wrote a b 0 end xs → length xs ≤ least_room → least_room ≤ length a → c ≡ cleared end b
    → (number : ℕ)
    → Whole a c (record { refusal = 0; len = end; said = number }) number xs
wrote_whole p short room e number =
    record { refusal_is = refl; len_is = omega (arith, p.ends); said_is = refl; bytes = e ∙ wrote_front p (omega arith) }
