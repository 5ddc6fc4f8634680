-- What is claimed of the printed text of a cascade holds of any call that was answered as its contract says. Assumes nothing.
use mathlib.Core.Path.{◌≡◌, sym, ◌∙◌}
use mathlib.Core.List.{List}
use Prim.Native.Nat.{ℕ}
use lib.ListN.{length}
use Rattle.wire.proofs.Places.{take_filled}
use Rattle.transducer.specs.Format.{refusal, decode}
use Rattle.transducer.specs.Entry.{or_else, unless, left_in}
use Rattle.transducer.proofs.Answers.{or_else_none}
use Rattle.transducer.proofs.Runs.{good_within}
use Rattle.explore.specs.Explore.{built_refusal}
use Rattle.cascade.specs.Pairs.{FittingPairs}
use Rattle.cascade.specs.Entry.{cascade, tables_refusal}
use Rattle.cascade.proofs.Cascaded.{Passed, cascade_good, cascade_paths}
use Rattle.listing.specs.Code.{labels_in}
use Rattle.listing.specs.Entry.{applied_refusal, text_room}
use Rattle.listing.proofs.Steps.{applied_fine}
use Rattle.printed.proofs.PrintedText.{printed_text}
use Rattle.cascade_listing.specs.Entry.{cascade_listing_refusal, cascade_text, CascadeListingSays}
use Rattle.cascade_listing.specs.PrintedCascade.{Printing, printed, leads_to, Printed}

-- Nothing was refused.
listing_passed : (xs ys cs : List ℕ) → cascade_listing_refusal xs ys cs ≡ 0 → Passed xs ys (labels_in cs)
unfolding cascade_listing_refusal tables_refusal
listing_passed xs ys cs none =
    let last : ℕ = built_refusal (cascade xs ys (labels_in cs)) in
    let one = or_else_none (or_else (refusal xs) (refusal ys)) (or_else (applied_refusal (decode xs) cs) last) none in
    let both = or_else_none (refusal xs) (refusal ys) one.0 in
    let two = or_else_none (applied_refusal (decode xs) cs) last one.1 in
    record { left_accepted = both.0; right_accepted = both.1; appliable = applied_fine (decode xs) cs two.0; result_fine = two.1 }

module _ {left right code : List ℕ} (c : Printing left right code) where
  -- What is printed is the text of the definitions.
  said_well : CascadeListingSays left right code 0 c.answer c.out c.out_left
  said_well =
      let none : text_room (length c.out) ≡ 0 = sym c.listed.refusal_is ∙ c.well in
      rw none at c.listed

  printed_is : printed c ≡ cascade_text left right code
  unfolding unless left_in
  printed_is = rw (said_well.len_is, said_well.text) (take_filled (length c.out) (cascade_text left right code))

  said : c.answer.said ≡ cascade_listing_refusal left right code
  unfolding unless
  said = said_well.said_is

  pub printed_claim : Printed c
  unfolding cascade_text
  printed_claim =
      let s : List ℕ = labels_in code in
      record {
        text =
            printed_text (FittingPairs left right s) (cascade left right s) (leads_to left right s) (printed c) (cascade_listing_refusal left right code)
            printed_is
            (λ fine.
            let known : Passed left right s = listing_passed left right code fine in (
              good_within (cascade left right s) (cascade_good c.left_bytes c.right_bytes known),
              cascade_paths c.left_bytes c.right_bytes known,
            ));
        said = said;
      }
