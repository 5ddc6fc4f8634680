-- The text of the whole listing, from the bytes of two transducers and of a code, and what the call answers. Assumes nothing: these are definitions.
use Rattle.std.specs.Prelude.{◌≡◌, cond, List, ℕ, ◌%◌, eqb, ltb, length}
use Rattle.transducer.specs.Format.{Transducer}
use Rattle.transducer.specs.Entry.{or_else, unless, left_in}
use Rattle.compose.specs.Entry.{composition, composition_refusal}
use Rattle.lattice.specs.Lattice.{lattice}
use Rattle.lattice.specs.ApplyEntry.{application_refusal}
use Rattle.listing.specs.Answer.{Listed}
use Rattle.listing.specs.Code.{labels_in}
use Rattle.listing.specs.Text.{listing_text, refused_text, least_room}

-- 9 for an odd last byte, and else that of applying the labels.
unfoldable pub applied_refusal : Transducer → (code : List ℕ) → ℕ
applied_refusal t cs = cond (eqb (length cs % 2) 0) (application_refusal (labels_in cs) t) 9

-- A text, or the one line of a refusal.
unfoldable pub text_unless : (number : ℕ) → List ℕ → List ℕ
text_unless number text = cond (eqb number 0) text (refused_text number)

-- The text for a code and the transducer that it is applied to.
unfoldable pub applied_text : Transducer → (code : List ℕ) → List ℕ
applied_text t cs = text_unless (applied_refusal t cs) (listing_text (lattice (labels_in cs) t))

-- The refusal for two transducers and a code: the composition's comes before the code's.
unfoldable pub listing_refusal : (left right code : List ℕ) → ℕ
listing_refusal xs ys cs = or_else (composition_refusal xs ys) (applied_refusal (composition xs ys) cs)

-- The text for two transducers and a code.
unfoldable pub text_of : (left right code : List ℕ) → List ℕ
text_of xs ys cs = text_unless (listing_refusal xs ys cs) (listing_text (lattice (labels_in cs) (composition xs ys)))

-- 10: the buffer lent for the text is too short
unfoldable pub text_room : (room : ℕ) → ℕ
text_room room = cond (ltb room least_room) 10 0

-- The call is refused by 10 alone; any other refusal is what the text says.
pub record ListingSays (left right code : List ℕ) (number : ℕ) (r : Listed) (out out' : List ℕ) : Type 0 where
  pub refusal_is : r.refusal ≡ number
  pub len_is : r.len ≡ unless number (length (text_of left right code))
  pub said_is : r.said ≡ unless number (listing_refusal left right code)
  pub text : out' ≡ left_in number out (text_of left right code)
