-- Labels loaded one at a time. Assumes nothing.
use mathlib.Core.Path.{◌≡◌, sym, ap, ◌∙◌}
use mathlib.Core.List.{List}
use Prim.Native.Nat.{ℕ, ◌+◌, ◌*◌, ◌/◌, ◌≤◌, ◌<◌, min}
use native.Mathlib.Numerals.{add-one}
use native.Mathlib.Omega.{arith}
use lib.ListN.{length, get_or, set, take, length-take}
use lib.Seq.{take-suc, take-suc-set, take-take, take_all}
use Rattle.wire.specs.Bytes.{two}
use Rattle.wire.proofs.Places.{length_places, get_or_places}
use Rattle.listing.specs.Code.{labels_in, most_loaded, Loaded}

pub length_labels_in : (bs : List ℕ) → length (labels_in bs) ≡ length bs / 2
unfolding labels_in
length_labels_in bs = length_places (length bs / 2) 0 2 (two bs)

get_or_labels_in : (bs : List ℕ) (i : ℕ) → 2 * i + 1 < length bs → get_or (labels_in bs) i 0 ≡ two bs (2 * i)
unfolding labels_in
get_or_labels_in bs i h =
    let e : 0 + 2 * i ≡ 2 * i = omega arith in
    get_or_places (length bs / 2) 0 2 (two bs) i 0 (omega arith) ∙ ap (two bs) e

pub load_next : (bs string : List ℕ) (i v : ℕ) → length string ≡ most_loaded → i < most_loaded → 2 * i + 1 < length bs → v ≡ two bs (2 * i)
    → take i string ≡ take i (labels_in bs) → take (i + 1) (set string i v) ≡ take (i + 1) (labels_in bs)
load_next bs string i v long below more is same =
    let there : i < length (labels_in bs) = omega (arith, length_labels_in bs) in
    let room : i < length string = omega arith in
    rw (add-one, take-suc-set string i v room, take-suc (labels_in bs) i 0 there, same, get_or_labels_in bs i more, is)

pub load_done : (bs string : List ℕ) (i : ℕ) → length string ≡ most_loaded → i ≡ min most_loaded (length bs / 2) → take i string ≡ take i (labels_in bs)
    → Loaded bs i string
load_done bs string i long many same =
    let short : length (take most_loaded (labels_in bs)) ≤ i = omega (arith, length-take most_loaded (labels_in bs), length_labels_in bs) in
    record {
      long = long;
      many = many;
      labels = same ∙ (sym (take-take i most_loaded (labels_in bs) (omega arith)) ∙ take_all i (take most_loaded (labels_in bs)) short);
    }
