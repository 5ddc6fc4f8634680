-- The arcs' records moved to the front, one by one: what is read from a place on is what stood there. Assumes nothing.
use mathlib.Core.Path.{◌≡◌, refl, sym, ap, ◌∙◌}
use mathlib.Core.List.{List, [], ◌∷◌, ◌++◌, append_assoc}
use Prim.Native.Nat.{ℕ, suc, ◌+◌, ◌*◌, ◌≤◌, ◌<◌}
use native.Mathlib.Omega.{arith}
use lib.ListN.{length, get_or, set, take, drop, length-drop, take-append-drop}
use lib.Seq.{sets, sets-eq, drop-set-lt, drop-drop, get_or-drop, take-add, take-suc, take-suc-set, length-take-le}
use borrow.Rule.Slice.PartMut.{put_mid}
use Rattle.wire.proofs.Places.{sets_append, put_mid_sets}

-- Stores before a place change nothing from that place on.
pub drop_sets_before : (n : ℕ) (l : List ℕ) (i : ℕ) (vs : List ℕ) → i + length vs ≤ n → drop n (sets l i vs) ≡ drop n l
drop_sets_before n l i [] h = refl
drop_sets_before n l i (v ∷ vs) h = drop_sets_before n (set l i v) (suc i) vs (omega arith) ∙ drop-set-lt n l i v (omega arith)

-- One byte more is read.
pub read_next : (table bytes : List ℕ) (from k : ℕ) → from + k < length table → k < length bytes → take k bytes ≡ take k (drop from table)
    → take (suc k) (set bytes k (get_or table (from + k) 0)) ≡ take (suc k) (drop from table)
read_next table bytes from k inside below so_far =
    let long : k < length (drop from table) = omega (arith, length-drop from table) in
    take-suc-set bytes k (get_or table (from + k) 0) below
    ∙ ap (λ (l : List ℕ). l ++ (get_or table (from + k) 0 ∷ [])) so_far
    ∙ ap (λ (v : ℕ). take k (drop from table) ++ (v ∷ [])) (sym (get_or-drop from table k 0))
    ∙ sym (take-suc (drop from table) k 0 long)

-- A record that is written as it was read.
pub record_moved : (table bytes : List ℕ) (from to n k : ℕ) → from + n ≤ length table → to + n ≤ length table → k ≡ n → bytes ≡ take n (drop from table)
    → put_mid to k table bytes ≡ sets table to (take n (drop from table))
record_moved table bytes from to n k read write same is =
    let many : length (take n (drop from table)) ≡ n = length-take-le n (drop from table) (omega (arith, length-drop from table)) in
    put_mid_sets to k table bytes (take n (drop from table)) (omega (arith, many)) (same ∙ sym many) is

-- One record more is moved.
pub moved_next : (table₀ table table' : List ℕ) (from first j : ℕ) → first ≤ from → from + 16 * suc j ≤ length table₀
    → table ≡ sets table₀ first (take (16 * j) (drop from table₀))
    → table' ≡ sets table (first + 16 * j) (take 16 (drop (from + 16 * j) table))
    → table' ≡ sets table₀ first (take (16 * suc j) (drop from table₀))
moved_next table₀ table table' from first j low' room is put =
    let at : ℕ = from + 16 * j in
    let before : List ℕ = take (16 * j) (drop from table₀) in
    let long : length before ≡ 16 * j = length-take-le (16 * j) (drop from table₀) (omega (arith, length-drop from table₀)) in
    let behind : drop at table ≡ drop at table₀ =
    ap (λ (l : List ℕ). drop at l) is ∙ drop_sets_before at table₀ first before (omega (arith, long)) in
    let more : 16 * suc j ≡ 16 * j + 16 = omega arith in
    let all : take (16 * suc j) (drop from table₀) ≡ before ++ take 16 (drop at table₀) =
    ap (λ (n : ℕ). take n (drop from table₀)) more
    ∙ take-add (16 * j) 16 (drop from table₀)
    ∙ ap (λ (l : List ℕ). before ++ take 16 l) (drop-drop (16 * j) from table₀) in
    put
    ∙ ap (λ (l : List ℕ). sets table (first + 16 * j) (take 16 l)) behind
    ∙ ap (λ (l : List ℕ). sets l (first + 16 * j) (take 16 (drop at table₀))) is
    ∙ ap (λ (n : ℕ). sets (sets table₀ first before) (first + n) (take 16 (drop at table₀))) (sym long)
    ∙ sym (sets_append table₀ first before (take 16 (drop at table₀)))
    ∙ ap (λ (l : List ℕ). sets table₀ first l) (sym all)

-- Storing what stands there changes nothing,
pub sets_same : (l xs : List ℕ) (k : ℕ) → k + length xs ≤ length l → take (length xs) (drop k l) ≡ xs → l ≡ sets l k xs
sets_same l xs k room e =
    let rest : xs ++ drop (k + length xs) l ≡ drop k l =
    ap (λ (r : List ℕ). xs ++ r) (sym (drop-drop (length xs) k l))
    ∙ ap (λ (r : List ℕ). r ++ drop (length xs) (drop k l)) (sym e)
    ∙ take-append-drop (length xs) (drop k l) in
    sym
    (sets-eq xs l k room
    ∙ append_assoc (take k l) xs (drop (k + length xs) l)
    ∙ ap (λ (r : List ℕ). take k l ++ r) rest
    ∙ take-append-drop k l)

-- so records that stand in their place need not be moved.
pub unmoved : (table : List ℕ) (from first n : ℕ) → first ≡ from → from + n ≤ length table
    → table ≡ sets table first (take n (drop from table))
unmoved table from first n same room =
    let long : length (take n (drop from table)) ≡ n = length-take-le n (drop from table) (omega (arith, length-drop from table)) in
    rw same (sets_same table (take n (drop from table)) from (omega (arith, long)) (ap (λ (k : ℕ). take k (drop from table)) long))
