-- The claim as far as the printed text (paper 01: the listing program): from the bytes of any two transducers and of a code to the bytes of the text,
-- over the pairs of the two transducers and the code alone. Assumes nothing: these are definitions.
use Rattle.std.specs.Prelude.{◌≡◌, List, ℕ, length, take}
use Rattle.wire.specs.Bytes.{Bytes}
use Rattle.transducer.specs.Format.{decode}
use Rattle.compose.specs.Claim.{TwoPaths}
use Rattle.compose.specs.Compose.{composed}
use Rattle.compose.specs.Entry.{composition, origin_pairs}
use Rattle.lattice.specs.Lattice.{lattice_origins}
use Rattle.claim.specs.Entry.{composition_lattice}
use Rattle.claim.specs.Claim.{Pairs, to_pair}
use Rattle.listing.specs.Answer.{Listed}
use Rattle.listing.specs.Code.{labels_in}
use Rattle.listing.specs.Entry.{listing_refusal, text_room, ListingSays}
use Rattle.printed.specs.PrintedText.{PrintedText}

-- The call: what it was handed, its answer, the buffer that it was lent, and the same as it was left behind.
pub record Printing : Type 0 where
  pub left : List ℕ
  pub right : List ℕ
  pub code : List ℕ
  pub answer : Listed
  pub out : List ℕ
  pub out_left : List ℕ

-- It was answered as its contract says, and not refused. That the two inputs are bytes holds of slices of bytes.
pub record Answered (c : Printing) : Type 0 where
  pub left_bytes : Bytes c.left
  pub right_bytes : Bytes c.right
  pub listed : ListingSays c.left c.right c.code (text_room (length c.out)) c.answer c.out c.out_left
  pub well : c.answer.refusal ≡ 0

-- What is printed: the buffer as left behind, at the length told.
abbrev pub printed : Printing → List ℕ
printed c = take c.answer.len c.out_left

-- The first refusal that there is, or 0: the composition's, the code's, that of applying it.
abbrev pub refusal_of : Printing → ℕ
refusal_of c = listing_refusal c.left c.right c.code

-- Where the paths of the lattice lead, by what composing and applying leave behind.
abbrev pub leads_to : (left right string path : List ℕ) → TwoPaths
leads_to left right string =
    to_pair (origin_pairs (composed (decode left) (decode right)).steps) (lattice_origins string (composition left right))

-- What is claimed of the text: it has one of four forms, each exactly if it should, and below 99 one line for each pair in path order (`PrintedText`).
pub record Printed (c : Printing) : Type 0 where
  pub text :
      PrintedText (Pairs c.left c.right (labels_in c.code)) (composition_lattice c.left c.right (labels_in c.code))
      (leads_to c.left c.right (labels_in c.code)) (printed c) (refusal_of c)
  -- The answer tells the refusal that the text says.
  pub said : c.answer.said ≡ refusal_of c
