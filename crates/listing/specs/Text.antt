-- The text of the listing, byte by byte (paper 01: the listing program), and what a text written at a place leaves. Assumes nothing: these are definitions.
use Rattle.std.specs.Prelude.{◌≡◌, cond, List, [], ◌∷◌, ◌++◌, ℕ, zero, suc, ◌+◌, ◌/◌, ◌%◌, ltb, length}
use Rattle.std.proofs.lemmas.List.Edits.{sets}
use Rattle.wire.specs.Bytes.{filled}
use Rattle.transducer.specs.Format.{Transducer}
use Rattle.transducer.specs.Path.{written_by, path_cost}
use Rattle.transducer.specs.Weight.{Weight, no_weight, at_most, magnitude}
use Rattle.paths.specs.Count.{endless, path_count, nth_path, most_counted}
use Rattle.listing.specs.Answer.{Listed}

-- The decimal digits of a number, no zero in front; the fuel is at least the number.
unfoldable pub digits : (fuel n : ℕ) → List ℕ
digits zero n = (48 + n) ∷ []
digits (suc fuel) n =
    let more = digits fuel (n / 10) ++ ((48 + n % 10) ∷ []) in
    cond (ltb n 10) ((48 + n) ∷ []) more

unfoldable pub decimal : ℕ → List ℕ
decimal n = digits n n

abbrev pub blank : ℕ
blank = 32

abbrev pub newline : ℕ
newline = 10

abbrev pub minus : ℕ
minus = 45

-- A cost: its digits, behind a minus sign where it is below 0.
unfoldable pub cost_text : Weight → List ℕ
cost_text c = cond (at_most no_weight c) (decimal (magnitude c)) (minus ∷ decimal (magnitude c))

-- The words of the listing, the first and the last with a blank behind.
unfoldable pub readings_word : List ℕ
readings_word = 114 ∷ 101 ∷ 97 ∷ 100 ∷ 105 ∷ 110 ∷ 103 ∷ 115 ∷ blank ∷ []

unfoldable pub endless_word : List ℕ
endless_word = 101 ∷ 110 ∷ 100 ∷ 108 ∷ 101 ∷ 115 ∷ 115 ∷ newline ∷ []

unfoldable pub many_word : List ℕ
many_word = 57 ∷ 57 ∷ 43 ∷ newline ∷ []

unfoldable pub refused_word : List ℕ
refused_word = 114 ∷ 101 ∷ 102 ∷ 117 ∷ 115 ∷ 101 ∷ 100 ∷ blank ∷ []

-- Labels with a blank before each.
unfoldable pub labels_text : List ℕ → List ℕ
labels_text [] = []
labels_text (x ∷ xs) = (blank ∷ decimal x) ++ labels_text xs

-- The line of one path: its number, its cost, and the labels that it writes.
unfoldable pub line : (k : ℕ) → (cost : Weight) → (labels : List ℕ) → List ℕ
line k cost labels = decimal k ++ (blank ∷ cost_text cost) ++ labels_text labels ++ (newline ∷ [])

unfoldable pub line_of : Transducer → (k : ℕ) → List ℕ
line_of t k = line k (path_cost t (nth_path t k)) (written_by t (nth_path t k))

-- The lines of the paths numbered below `count`.
unfoldable pub lines : Transducer → (count : ℕ) → List ℕ
lines t zero = []
lines t (suc k) = lines t k ++ line_of t k

-- What follows the first word: the count and a line for each path, or no line where they are 99 or more or infinitely many.
unfoldable pub counted_text : Transducer → List ℕ
counted_text t = cond (ltb (path_count t) most_counted) (decimal (path_count t) ++ (newline ∷ lines t (path_count t))) many_word

-- The listing of a transducer.
unfoldable pub listing_text : Transducer → List ℕ
listing_text t = readings_word ++ cond (endless t) endless_word (counted_text t)

-- The one line on a refusal.
unfoldable pub refused_text : (number : ℕ) → List ℕ
refused_text number = refused_word ++ decimal number ++ (newline ∷ [])

-- The bytes of the longest text: `readings 98`, then 98 lines, 10 of them with a number of one digit, each with a minus sign, a cost of ten digits and
-- 1,023 labels of five.
abbrev pub least_room : ℕ
least_room = 602996

-- A text written at a place, and the place behind it.
pub record Wrote (before after : List ℕ) (at end : ℕ) (text : List ℕ) : Type 0 where
  pub ends : end ≡ at + length text
  pub bytes : after ≡ sets before at text

-- The answer of a call that leaves a text at the front of a buffer with zeros behind: the text's length, and the refusal that it says.
pub record Whole (before after : List ℕ) (r : Listed) (said : ℕ) (text : List ℕ) : Type 0 where
  pub refusal_is : r.refusal ≡ 0
  pub len_is : r.len ≡ length text
  pub said_is : r.said ≡ said
  pub bytes : after ≡ filled (length before) text
