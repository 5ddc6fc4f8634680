-- The tests of refusals 5 to 8, gathered in one pass over the finals and the arcs. Assumes nothing: these are definitions.
use Rattle.std.specs.Prelude.{◌≡◌, ℕ, zero, suc, ◌+◌, ◌*◌, ◌/◌, ◌%◌, ◌<◌, ◌≤◌, Bool, true, false, cond, not, ◌&&◌, List, Option, Some, is_some, ◌==◌, nat_le, nat_lt}
use Rattle.wire.specs.Bytes.{two, four}
use Rattle.transducer.specs.declared.Arc.{Arc}
use Rattle.transducer.specs.declared.Final.{Final}
use Rattle.transducer.specs.declared.Checks.{Checks}
use Rattle.transducer.specs.declared.check.FastCheck.{FastCheck}
use Rattle.transducer.specs.Format.{head_bytes, final_bytes, arc_bytes, arcs_at, weight_good, labels_good, final_at, arc_at, framed, kinds_good, records}
use Rattle.transducer.specs.Format.{head_good, head_states, head_arcs, head_finals, head_start, barred, max_weight, weight_at}
use Rattle.transducer.specs.Weight.{Weight, rebate, AtMost}

-- Length and kind of a final's and of an arc's record, as one number of four bytes.
abbrev pub head_word : ℕ
head_word = 65544

abbrev pub final_word : ℕ
final_word = 131078

abbrev pub arc_word : ℕ
arc_word = 196620

-- Nothing has failed yet, and any state may come next.
abbrev pub none_failed : Checks
none_failed = record { heads = true; states = true; order = true; labels = true; weights = true; floor = 0 }

-- The tests so far with those of one more final, or of one more arc, whose record begins with `word`.
unfoldable pub final_checked : (n word : ℕ) → Final → Checks → Checks
final_checked n word f c =
    record {
      heads = c.heads && (word == final_word);
      states = c.states && nat_lt f.state n;
      order = c.order && nat_le c.floor f.state;
      labels = c.labels;
      weights = c.weights && weight_good f.weight;
      floor = f.state + 1;
    }

unfoldable pub arc_checked : (n word : ℕ) → Arc → Checks → Checks
arc_checked n word a c =
    record {
      heads = c.heads && (word == arc_word);
      states = c.states && (nat_lt a.source n && nat_lt a.target n);
      order = c.order && nat_le c.floor a.source;
      labels = c.labels && labels_good a.input a.output;
      weights = c.weights && weight_good a.weight;
      floor = a.source;
    }

-- The tests of `count` finals, or arcs, the first at a place, each `step` past the one before.
unfoldable pub finals_checked : (count at step n : ℕ) → (ℕ → ℕ) → (ℕ → Final) → Checks → Checks
finals_checked zero at step n word final c = c
finals_checked (suc count) at step n word final c =
    finals_checked count (at + step) step n word final (final_checked n (word at) (final at) c)

unfoldable pub arcs_checked : (count at step n : ℕ) → (ℕ → ℕ) → (ℕ → Arc) → Checks → Checks
arcs_checked zero at step n word arc c = c
arcs_checked (suc count) at step n word arc c = arcs_checked count (at + step) step n word arc (arc_checked n (word at) (arc at) c)

-- The tests with the floor put back to 0, between the finals and the arcs.
unfoldable pub from_0 : Checks → Checks
from_0 c = record { heads = c.heads; states = c.states; order = c.order; labels = c.labels; weights = c.weights; floor = 0 }

-- The tests with another floor.
unfoldable pub with_floor : ℕ → Checks → Checks
with_floor floor c =
    record { heads = c.heads; states = c.states; order = c.order; labels = c.labels; weights = c.weights; floor = floor }

-- Source, input, output and target of an arc whose fields begin at a place, as one number of eight bytes; and its upper three fields.
unfoldable pub eight : List ℕ → (at : ℕ) → ℕ
eight bs at = four bs at + 4294967296 * four bs (at + 4)

abbrev pub input_of : ℕ → ℕ
input_of fields = fields / 65536 % 65536

abbrev pub output_of : ℕ → ℕ
output_of fields = fields / 4294967296 % 65536

abbrev pub target_of : ℕ → ℕ
target_of fields = fields / 281474976710656

-- Labels up to those of `any`, the fields gathered, are good, and no input up to its own is 65,535; and unless each target was tested, the target of `any`
-- is a state.
pub record GoodUpTo (any : ℕ) : Type 0 where
  pub labels_are : (input output : ℕ) → input ≤ input_of any → output ≤ output_of any → labels_good input output ≡ true
  pub no_any : input_of any < barred

pub record GoodFields (any n : ℕ) (each : Bool) : Type 0 where
  pub labels : GoodUpTo any
  pub targets : each ≡ false → target_of any < n

-- The records of arcs from one place to another.
pub record Rows (from end : ℕ) : Type 0 where
  pub many : ℕ
  pub end_is : end ≡ from + arc_bytes * many

-- No arc from `at` up to `end` leads to a state below the target of `all`, nor has an output below its output.
pub record NoneUnder (bs : List ℕ) (at all end : ℕ) : Type 0 where
  pub leads : (k : ℕ) → at + arc_bytes * k < end → target_of all ≤ (arc_at bs (at + arc_bytes * k)).target
  pub outputs : (k : ℕ) → at + arc_bytes * k < end → output_of all ≤ (arc_at bs (at + arc_bytes * k)).output

-- A weight is neither below the one nor above the other.
pub record Between (low weight high : Weight) : Type 0 where
  pub not_below : AtMost low weight
  pub not_above : AtMost weight high

-- What is seen of the arcs up to a place, of `count` from `at` on: if the last source is a state and the gathered fields are good, then each passes each
-- test. No weight is below `least`, no source is above the last, no input above that of `any`, and no target and no output is below that of `all`.
pub record FastChecked (bs : List ℕ) (at count n : ℕ) (each : Bool) (floor last any all : ℕ) (least : Weight) (place : ℕ) : Type 0 where
  pub arcs : ℕ
  pub within : arcs ≤ count
  pub there : place ≡ at + arc_bytes * arcs
  pub passing : last < n → GoodFields any n each → (c : Checks) → c.floor ≡ floor →
      arcs_checked arcs at arc_bytes n (four bs) (arc_at bs) c ≡ with_floor last c
  pub light : (k : ℕ) → k < arcs → AtMost least (arc_at bs (at + arc_bytes * k)).weight
  pub steps : (k : ℕ) → k < arcs → (arc_at bs (at + arc_bytes * k)).source ≤ last
  pub inputs : (k : ℕ) → k < arcs → (arc_at bs (at + arc_bytes * k)).input ≤ input_of any
  pub under : NoneUnder bs at all place

-- An arc that passes each test but that of what is gathered: its weight is not below `least` and not too high, and its source is not below `before`.
pub record Passing (bs : List ℕ) (place n : ℕ) (each : Bool) (before : ℕ) (least : Weight) (source : ℕ) : Type 0 where
  pub weight : Between least (weight_at bs (place + 12)) max_weight
  pub target : each ≡ true → two bs (place + 10) < n
  pub head : four bs place ≡ arc_word
  pub source_is : source ≡ two bs (place + 4)
  pub order : before ≤ source

-- A run from one place to another: whatever was known of the arcs before it goes on.
abbrev pub GoesOn : (bs : List ℕ) (from end n : ℕ) (each : Bool) (last any all : ℕ) (least : Weight) (before most lowest place : ℕ) → Type 0
GoesOn bs from end n each last any all least before most lowest place =
    (at count floor : ℕ) → end ≡ at + arc_bytes * count → FastChecked bs at count n each floor last any all least from →
    FastChecked bs at count n each floor before most lowest least place

-- What a first run leaves.
abbrev pub Seen : (bs : List ℕ) (at end n : ℕ) (each : Bool) (floor last any all place : ℕ) → Type 0
Seen bs at end n each floor last any all place =
    (count : ℕ) → end ≡ at + arc_bytes * count → FastChecked bs at count n each floor last any all (rebate 0) place

-- What the fast check of arcs answers, if it is sure that each passes each test: the source of the last, the floor where there are none.
pub record Plain (bs : List ℕ) (at count n floor : ℕ) (r : Option ℕ) : Type 0 where
  pub all_pass : (last : ℕ) → r ≡ Some last → (c : Checks) → c.floor ≡ floor →
      arcs_checked count at arc_bytes n (four bs) (arc_at bs) c ≡ with_floor last c

-- No good weight of `count` arcs from `at` on is below `least`.
pub record NoneBelow (bs : List ℕ) (at count : ℕ) (least : Weight) : Type 0 where
  pub light : (k : ℕ) → k < count → weight_good (arc_at bs (at + arc_bytes * k)).weight ≡ true → AtMost least (arc_at bs (at + arc_bytes * k)).weight

-- Each of `count` arcs from `at` on leads to a higher state.
pub record EachUp (bs : List ℕ) (at count : ℕ) : Type 0 where
  pub rises : (k : ℕ) → k < count → (arc_at bs (at + arc_bytes * k)).source < (arc_at bs (at + arc_bytes * k)).target

-- Each of them writes a label.
pub record EachWrites (bs : List ℕ) (at count : ℕ) : Type 0 where
  pub some : (k : ℕ) → k < count → 0 < (arc_at bs (at + arc_bytes * k)).output

-- None of them is for any symbol.
pub record EachNamed (bs : List ℕ) (at count : ℕ) : Type 0 where
  pub no_any : (k : ℕ) → k < count → (arc_at bs (at + arc_bytes * k)).input < barred

pub record FastCheckSays (bs : List ℕ) (at count n floor : ℕ) (g : FastCheck) : Type 0 where
  pub plain : Plain bs at count n floor g.last
  pub light : NoneBelow bs at count g.least
  pub top_sorted : g.top_sorted ≡ true → EachUp bs at count
  pub no_output_epsilon : g.no_output_epsilon ≡ true → EachWrites bs at count
  pub has_no_any_input : is_some g.last ≡ true → EachNamed bs at count

-- The tests of all records, at the places that f finals and m arcs give.
unfoldable pub all_checked : List ℕ → (n m f : ℕ) → Checks
all_checked bs n m f =
    let finals = finals_checked f head_bytes final_bytes n (four bs) (final_at bs) none_failed in
    arcs_checked m (arcs_at f) arc_bytes n (four bs) (arc_at bs) (from_0 finals)

-- Which of 1 to 3 holds, else 4.
unfoldable pub diagnosis : List ℕ → ℕ
diagnosis bs =
    cond (not (framed bs)) 1
    (cond (not (kinds_good (records bs))) 2
    (cond (not (head_good (head_states bs) (head_arcs bs) (head_finals bs) (head_start bs))) 3 4))
