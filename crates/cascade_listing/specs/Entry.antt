-- The text of a cascade's listing, from the bytes of two transducers and of a code, and what the call answers. Assumes nothing: these are definitions.
use Rattle.std.specs.Prelude.{◌≡◌, List, ℕ, length}
use Rattle.transducer.specs.Format.{decode}
use Rattle.transducer.specs.Entry.{or_else, unless, left_in}
use Rattle.explore.specs.Explore.{built_refusal}
use Rattle.cascade.specs.Entry.{cascade, tables_refusal}
use Rattle.listing.specs.Answer.{Listed}
use Rattle.listing.specs.Code.{labels_in}
use Rattle.listing.specs.Text.{listing_text}
use Rattle.listing.specs.Entry.{applied_refusal, text_unless}

-- 1 to 8 of the left transducer, then of the right one, 9 for the code, 11 and 12 for the lattice, then 11 to 13 for the composition.
unfoldable pub cascade_listing_refusal : (left right code : List ℕ) → ℕ
cascade_listing_refusal xs ys cs =
    or_else (tables_refusal xs ys) (or_else (applied_refusal (decode xs) cs) (built_refusal (cascade xs ys (labels_in cs))))

-- The text: the listing of the result, or the one line of a refusal.
unfoldable pub cascade_text : (left right code : List ℕ) → List ℕ
cascade_text xs ys cs = text_unless (cascade_listing_refusal xs ys cs) (listing_text (cascade xs ys (labels_in cs)))

-- The call is refused by 10 alone; any other refusal is what the text says.
pub record CascadeListingSays (left right code : List ℕ) (number : ℕ) (r : Listed) (out out' : List ℕ) : Type 0 where
  pub refusal_is : r.refusal ≡ number
  pub len_is : r.len ≡ unless number (length (cascade_text left right code))
  pub said_is : r.said ≡ unless number (cascade_listing_refusal left right code)
  pub text : out' ≡ left_in number out (cascade_text left right code)
