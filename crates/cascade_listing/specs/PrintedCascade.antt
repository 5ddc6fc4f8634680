-- The claim of a cascade as far as the printed text: from the bytes of any two transducers and of a code to the bytes of the text, over the pairs of the
-- two transducers and the code alone. Assumes nothing: these are definitions.
use Rattle.std.specs.Prelude.{◌≡◌, List, ℕ, length, take}
use Rattle.wire.specs.Bytes.{Bytes}
use Rattle.compose.specs.Claim.{met_at, TwoPaths}
use Rattle.cascade.specs.Pairs.{FittingPairs}
use Rattle.cascade.specs.Entry.{cascade, cascade_origins}
use Rattle.listing.specs.Answer.{Listed}
use Rattle.listing.specs.Code.{labels_in}
use Rattle.listing.specs.Entry.{text_room}
use Rattle.printed.specs.PrintedText.{PrintedText}
use Rattle.cascade_listing.specs.Entry.{cascade_listing_refusal, CascadeListingSays}

-- The call, answered as its contract says and not refused: what it was handed, its answer, the buffer that it was lent, and the same as it was left behind.
-- That the two inputs are bytes holds of slices of bytes.
pub record Printing (left right code : List ℕ) : Type 0 where
  pub left_bytes : Bytes left
  pub right_bytes : Bytes right
  pub answer : Listed
  pub out : List ℕ
  pub out_left : List ℕ
  pub listed : CascadeListingSays left right code (text_room (length out)) answer out out_left
  pub well : answer.refusal ≡ 0

-- What is printed: the buffer as left behind, at the length told.
abbrev pub printed : {left right code : List ℕ} → Printing left right code → List ℕ
printed c = take c.answer.len c.out_left

-- Where the paths of the result lead, by its origins.
abbrev pub leads_to : (left right string path : List ℕ) → TwoPaths
leads_to left right string p =
    record { left = met_at (cascade_origins left right string) 0 p; right = met_at (cascade_origins left right string) 1 p }

-- What is claimed of the text: it has one of four forms, each exactly if it should, and below 99 one line for each pair in path order (`PrintedText`).
pub record Printed {left right code : List ℕ} (c : Printing left right code) : Type 0 where
  pub text :
      PrintedText (FittingPairs left right (labels_in code)) (cascade left right (labels_in code)) (leads_to left right (labels_in code)) (printed c)
      (cascade_listing_refusal left right code)
  -- The answer tells the refusal that the text says.
  pub said : c.answer.said ≡ cascade_listing_refusal left right code
