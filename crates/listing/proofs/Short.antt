-- How long the parts of a listing are at most. Assumes nothing.
use mathlib.Core.Path.{◌≡◌, refl, ap, ◌∙◌}
use mathlib.Core.Bool.{Bool, true, false, cond}
use mathlib.Core.List.{List, [], ◌∷◌, ◌++◌, append_assoc, append-nil}
use Prim.Native.Nat.{ℕ, zero, suc, ◌+◌, ◌*◌, ◌≤◌, ◌<◌, min}
use native.Mathlib.Numerals.{add-one}
use native.Mathlib.Omega.{arith}
use borrow.Author.Tests.{ltb-true, ltb-false}
use lib.Dec.{eqb, ltb}
use lib.ListN.{length, get_or, take, length-append}
use lib.Seq.{take-suc}
use Rattle.wire.proofs.Bool.{by_test}
use Rattle.transducer.specs.Format.{weight_limit, Transducer, max_path}
use Rattle.transducer.specs.Weight.{Weight, no_weight, at_most, magnitude}
use Rattle.transducer.specs.Path.{arc, no_arc, non_empty, ends, final_weight, written_by, arcs_cost, path_cost}
use Rattle.transducer.proofs.Good.{arc_light, finals_light, arc_labels_below}
use Rattle.transducer.proofs.Finals.{final_weight_good}
use Rattle.transducer.proofs.Weights.{magnitude_plus, good_size}
use Rattle.transducer.proofs.Paths.{written_by_short}
use Rattle.transducer.proofs.Runs.{Accepting, AcceptingBy, accepts_accepting, accepting_cons}
use Rattle.paths.specs.Count.{endless, path_count, nth_path, most_counted}
use Rattle.paths.proofs.Ready.{Sized}
use Rattle.paths.proofs.NthPath.{nth_path_accepts, nth_path_short, path_count_listed}
use Rattle.listing.specs.Text.{Wrote, decimal, minus, cost_text, labels_text, line, line_of, lines, refused_word, refused_text}
use Rattle.listing.proofs.Wrote.{wrote_none, wrote_then}
use Rattle.listing.proofs.Decimal.{length_decimal_small, two_digits, five_digits, ten_digits}

-- Labels

pub labels_text_snoc : (xs : List ℕ) (x : ℕ) → labels_text (xs ++ (x ∷ [])) ≡ labels_text xs ++ (32 ∷ decimal x)
unfolding labels_text
labels_text_snoc [] x = rw (append-nil (decimal x))
labels_text_snoc (y ∷ xs) x = rw (labels_text_snoc xs x, append_assoc)

-- One label more is written: a blank, and its digits.

pub labels_none : (out : List ℕ) (at : ℕ) → Wrote out out at at (labels_text [])
unfolding labels_text
labels_none out at = wrote_none out at

pub labels_next : {a b c d : List ℕ} {at end mid next : ℕ} (xs : List ℕ) (i : ℕ) → i < length xs → Wrote a b at end (labels_text (take i xs))
    → Wrote b c end mid (32 ∷ []) → Wrote c d mid next (decimal (get_or xs i 0)) → Wrote a d at next (labels_text (take (i + 1) xs))
labels_next xs i h p q r =
    rw (add-one, take-suc xs i 0 h, labels_text_snoc (take i xs) (get_or xs i 0)) (wrote_then p (wrote_then q r))

pub labels_text_short : (xs : List ℕ) → ((i : ℕ) → get_or xs i 0 < 65536) → length (labels_text xs) ≤ 6 * length xs
unfolding labels_text
labels_text_short [] h = omega arith
labels_text_short (x ∷ xs) h =
    let here : length (decimal x) ≤ 5 = five_digits x (omega (arith, h 0)) in
    let rest : length (labels_text xs) ≤ 6 * length xs = labels_text_short xs (λ i. h (suc i)) in
    rw (length-append (decimal x) (labels_text xs)) (omega arith)

-- Fewer labels are no longer.
labels_text_take : (i : ℕ) (xs : List ℕ) → length (labels_text (take i xs)) ≤ length (labels_text xs)
unfolding labels_text
labels_text_take zero xs = omega arith
labels_text_take (suc i) [] = omega arith
labels_text_take (suc i) (x ∷ xs) =
    rw (length-append (decimal x) (labels_text (take i xs)), length-append (decimal x) (labels_text xs)) (omega (arith, labels_text_take i xs))

pub label_fits : (xs : List ℕ) (i : ℕ) → i < length xs
    → length (labels_text (take i xs)) + (1 + length (decimal (get_or xs i 0))) ≤ length (labels_text xs)
label_fits xs i h =
    let one : labels_text (take (i + 1) xs) ≡ labels_text (take i xs) ++ (32 ∷ decimal (get_or xs i 0)) =
    rw (add-one, take-suc xs i 0 h) (labels_text_snoc (take i xs) (get_or xs i 0)) in
    omega (arith, labels_text_take (i + 1) xs, ap length one ∙ length-append (labels_text (take i xs)) (32 ∷ decimal (get_or xs i 0)))

-- A cost: one byte more than its digits where it is below 0.
pub cost_above : (c : Weight) → at_most no_weight c ≡ true → cost_text c ≡ decimal (magnitude c)
unfolding cost_text
cost_above c e = rw e

pub cost_below : (c : Weight) → at_most no_weight c ≡ false → cost_text c ≡ minus ∷ decimal (magnitude c)
unfolding cost_text
cost_below c e = rw e

cost_text_short : (c : Weight) → magnitude c < 10000000000 → length (cost_text c) ≤ 11
cost_text_short c h =
    by_test (at_most no_weight c) (λ e. rw (cost_above c e) (omega (arith, ten_digits (magnitude c) h)))
    (λ e. rw (cost_below c e) (omega (arith, ten_digits (magnitude c) h)))

pub length_line : (k : ℕ) (cost : Weight) (labels : List ℕ)
    → length (line k cost labels) ≡ length (decimal k) + (1 + (length (cost_text cost) + (length (labels_text labels) + 1)))
unfolding line
length_line k cost labels = simp length-append (omega arith)

line_short : (k : ℕ) (cost : Weight) (labels : List ℕ) → magnitude cost < 10000000000 → length labels ≤ max_path → ((i : ℕ) → get_or labels i 0 < 65536)
    → length (line k cost labels) ≤ length (decimal k) + 6151
line_short k cost labels b few h = omega (arith, length_line k cost labels, cost_text_short cost b, labels_text_short labels h)

-- Paths

arcs_cost_low : (t : Transducer) → Sized t → (s : ℕ) (p : List ℕ) → Accepting t s p → magnitude (arcs_cost t p) ≤ weight_limit * length p
unfolding arcs_cost arc
arcs_cost_low t z s [] a = omega arith
arcs_cost_low t z s (i ∷ p) a =
    let by : AcceptingBy t s i p = accepting_cons t s i p a in
    let w : Weight = (get_or t.arcs i no_arc).weight in
    let here : magnitude w ≤ weight_limit = good_size w (arc_light t z.content i no_arc by.below) in
    let rest : magnitude (arcs_cost t p) ≤ weight_limit * length p = arcs_cost_low t z (arc t i).target p by.rest in
    omega (arith, magnitude_plus w (arcs_cost t p))

labels_low : (t : Transducer) → Sized t → (s : ℕ) (p : List ℕ) → Accepting t s p → (k : ℕ) → get_or (written_by t p) k 0 < 65536
unfolding written_by non_empty arc
labels_low t z s [] a k = omega arith
labels_low t z s (i ∷ p) a k =
    let by : AcceptingBy t s i p = accepting_cons t s i p a in
    let here : (get_or t.arcs i no_arc).output < 65536 = (arc_labels_below t z.content i no_arc by.below).1 in
    on (eqb (get_or t.arcs i no_arc).output 0) here k (λ j. labels_low t z (arc t i).target p by.rest j)
  where
    on : (b : Bool) → (get_or t.arcs i no_arc).output < 65536 → (k : ℕ) → ((j : ℕ) → get_or (written_by t p) j 0 < 65536)
        → get_or (cond b (written_by t p) ((get_or t.arcs i no_arc).output ∷ written_by t p)) k 0 < 65536
    on true here k rest = rest k
    on false here zero rest = omega arith
    on false here (suc k) rest = rest k

-- A path that is handed out has fewer arcs than there are states, so its cost has at most ten digits, and a minus sign.
pub record Listable (t : Transducer) (k : ℕ) : Type 0 where
  pub number : k < most_counted
  pub cost : magnitude (path_cost t (nth_path t k)) < 10000000000
  pub few : length (written_by t (nth_path t k)) ≤ max_path
  pub labels : (i : ℕ) → get_or (written_by t (nth_path t k)) i 0 < 65536

pub listable : (t : Transducer) → Sized t → endless t ≡ false → (k : ℕ) → k < path_count t → Listable t k
unfolding path_cost
listable t z finite k there =
    let p : List ℕ = nth_path t k in
    let listed = path_count_listed t k there in
    let a : Accepting t t.start p = accepts_accepting t p (nth_path_accepts t k listed.0) in
    let short : length p < t.states = nth_path_short t z.within finite k there in
    let w : Weight = final_weight t.finals (ends t t.start p) in
    let last : magnitude w ≤ weight_limit = good_size w (final_weight_good t.finals (ends t t.start p) (finals_light t z.content)) in
    record {
      number = listed.1;
      cost = omega (arith, magnitude_plus (arcs_cost t p) w, arcs_cost_low t z t.start p a, short, last, z.states);
      few = omega (arith, written_by_short t p, short, z.states);
      labels = labels_low t z t.start p a;
    }

-- Lines

line_of_short : (t : Transducer) (k : ℕ) → Listable t k → length (line_of t k) ≤ length (decimal k) + 6151
unfolding line_of
line_of_short t k l = line_short k (path_cost t (nth_path t k)) (written_by t (nth_path t k)) l.cost l.few l.labels

pub lines_none : (t : Transducer) (out : List ℕ) (at : ℕ) → Wrote out out at at (lines t 0)
unfolding lines
lines_none t out at = wrote_none out at

pub lines_next : {a b c : List ℕ} {at mid end : ℕ} (t : Transducer) (k : ℕ) → Wrote a b at mid (lines t k) → Wrote b c mid end (line_of t k)
    → Wrote a c at end (lines t (k + 1))
unfolding lines
lines_next t k p q = rw add-one (wrote_then p q)

length_lines : (t : Transducer) (k : ℕ) → length (lines t (suc k)) ≡ length (lines t k) + length (line_of t k)
unfolding lines
length_lines t k = length-append (lines t k) (line_of t k)

pub line_fits : (t : Transducer) (k n : ℕ) → k < n → length (lines t k) + length (line_of t k) ≤ length (lines t n)
line_fits t k zero h = absurd (omega arith)
line_fits t k (suc n) h = on (ltb k n) refl (λ l. line_fits t k n l)
  where
    on : (b : Bool) → ltb k n ≡ b → (k < n → length (lines t k) + length (line_of t k) ≤ length (lines t n))
        → length (lines t k) + length (line_of t k) ≤ length (lines t (suc n))
    on true e rest = omega (arith, rest (ltb-true k n e), length_lines t n)
    on false e rest =
        let last : k ≡ n = omega (arith, ltb-false k n e) in
        rw last (omega (arith, length_lines t n))

-- Ten numbers have one digit, the others two.
pub lines_short : (t : Transducer) (n : ℕ) → n < most_counted → ((k : ℕ) → k < n → Listable t k) → length (lines t n) + min n 10 ≤ 6153 * n
unfolding lines
lines_short t zero few h = omega arith
lines_short t (suc n) few h =
    let rest : length (lines t n) + min n 10 ≤ 6153 * n = lines_short t n (omega arith) (λ k l. h k (omega arith)) in
    on (ltb n 10) refl rest (line_of_short t n (h n (omega arith)))
  where
    on : (b : Bool) → ltb n 10 ≡ b → length (lines t n) + min n 10 ≤ 6153 * n → length (line_of t n) ≤ length (decimal n) + 6151
        → length (lines t (suc n)) + min (suc n) 10 ≤ 6153 * suc n
    on true e rest here = omega (arith, length_lines t n, length_decimal_small n (ltb-true n 10 e))
    on false e rest here = omega (arith, length_lines t n, ltb-false n 10 e, two_digits n (omega arith))

pub refused_short : (number : ℕ) → number < 10000000000 → length (refused_text number) ≤ 19
unfolding refused_text refused_word
refused_short number h =
    let digits : length (decimal number) ≤ 10 = ten_digits number h in
    rw (length-append (decimal number) (10 ∷ [])) (omega arith)
