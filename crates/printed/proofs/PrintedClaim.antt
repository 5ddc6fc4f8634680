-- What is claimed of the printed text holds of any call that was answered as its contract says: what is printed is the text of the definitions. Assumes
-- nothing.
use mathlib.Core.Path.{◌≡◌, sym, ◌∙◌}
use mathlib.Core.List.{List}
use Prim.Native.Nat.{ℕ}
use lib.ListN.{length}
use Rattle.wire.proofs.Places.{take_filled}
use Rattle.transducer.specs.Entry.{unless, left_in}
use Rattle.claim.specs.Claim.{Pairs}
use Rattle.claim.specs.Entry.{composition_lattice}
use Rattle.listing.specs.Code.{labels_in}
use Rattle.listing.specs.Entry.{text_of, text_room, ListingSays}
use Rattle.printed.specs.Printed.{Printing, Answered, printed, refusal_of, leads_to, Printed}
use Rattle.printed.proofs.Pairs.{within, pairs}
use Rattle.printed.proofs.PrintedText.{printed_text}

module _ (c : Printing) (answered : Answered c) where
  abbrev xs : List ℕ
  xs = c.left

  abbrev ys : List ℕ
  ys = c.right

  abbrev s : List ℕ
  s = labels_in c.code

  -- What is printed is the text of the definitions.
  said_well : ListingSays xs ys c.code 0 c.answer c.out c.out_left
  said_well =
      let none : text_room (length c.out) ≡ 0 = sym answered.listed.refusal_is ∙ answered.well in
      rw none at answered.listed

  printed_is : printed c ≡ text_of xs ys c.code
  unfolding unless left_in
  printed_is = rw (said_well.len_is, said_well.text) (take_filled (length c.out) (text_of xs ys c.code))

  said : c.answer.said ≡ refusal_of c
  unfolding unless
  said = said_well.said_is

  pub printed_claim : Printed c
  unfolding text_of
  printed_claim =
      record {
        text =
            printed_text (Pairs xs ys s) (composition_lattice xs ys s) (leads_to xs ys s) (printed c) (refusal_of c) printed_is
            (λ fine. (
              within xs ys c.code answered.left_bytes answered.right_bytes fine,
              pairs xs ys c.code answered.left_bytes answered.right_bytes fine,
            ));
        said = said;
      }
