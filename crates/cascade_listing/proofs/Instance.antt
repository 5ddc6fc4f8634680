-- The claim is not empty: any two transducers and any code, with any buffer that is long enough. Assumes nothing.
use mathlib.Core.Path.{refl}
use mathlib.Core.List.{List}
use Prim.Native.Nat.{ℕ, ◌≤◌}
use lib.ListN.{length}
use borrow.Author.Tests.{le-ltb}
use Rattle.wire.specs.Bytes.{Bytes}
use Rattle.transducer.specs.Entry.{unless, left_in}
use Rattle.listing.specs.Text.{least_room}
use Rattle.listing.specs.Entry.{text_room}
use Rattle.cascade_listing.specs.Entry.{cascade_listing_refusal, cascade_text}
use Rattle.cascade_listing.specs.PrintedCascade.{Printing}

pub some_printing : (left right code out : List ℕ) → Bytes left → Bytes right → least_room ≤ length out → Printing left right code
unfolding text_room
some_printing left right code out bytes_left bytes-right long =
    let number : ℕ = text_room (length out) in
    record {
      left_bytes = bytes_left;
      right_bytes = bytes-right;
      answer =
          record {
            refusal = number;
            len = unless number (length (cascade_text left right code));
            said = unless number (cascade_listing_refusal left right code);
          };
      out = out;
      out_left = left_in number out (cascade_text left right code);
      listed = record { refusal_is = refl; len_is = refl; said_is = refl; text = refl };
      well = rw (le-ltb (length out) least_room long);
    }
