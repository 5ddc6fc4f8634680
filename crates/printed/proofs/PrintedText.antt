-- What is claimed of a listing's text holds of any text that is the listing of a transducer, or the line of a refusal: one of four cases holds, and
-- neither the texts nor the cases go together. Assumes nothing.
use mathlib.Core.Path.{◌≡◌, refl, sym, ap, ◌∙◌}
use mathlib.Core.Bool.{Bool, true, false}
use mathlib.Core.List.{List, ◌∷◌, ◌++◌, map}
use Prim.Native.Nat.{ℕ, ◌≤◌, ◌<◌}
use native.Mathlib.Omega.{arith}
use borrow.Author.Tests.{eqb-true, eqb-false, ne_eqb, ltb-true, ltb-false}
use lib.Dec.{eqb, ltb}
use lib.ListN.{length, length-map}
use Rattle.transducer.specs.Format.{Transducer}
use Rattle.transducer.proofs.Runs.{Within}
use Rattle.paths.specs.Count.{paths, endless, path_count}
use Rattle.claim.specs.Kind.{Kind, PathsAre, InfinitelyMany}
use Rattle.claim.proofs.Counting.{each_once_long}
use Rattle.listing.specs.Text.{decimal, readings_word, endless_word, many_word, lines, counted_text, listing_text, refused_text}
use Rattle.listing.specs.Entry.{text_unless}
use Rattle.listing.proofs.NthLine.{listing_endless, listing_finite, counted_many, counted_few}
use Rattle.printed.specs.PrintedText.{thing_lines, Begins, Lists, NumberOf, Many, Form, PrintedText}
use Rattle.printed.specs.PrintedText.Form.{refusal, infinite, many, count}
use Rattle.printed.proofs.Forms.{refused_or_listed, refused_once, endless_or_many, endless_or_count, many_or_count, count_once}
use Rattle.printed.proofs.Things.{things_once, in_path_order, lines_are_things}
use Rattle.printed.proofs.Things.{infinite as infinite-things}

module _ (K : Kind) (w : Transducer) (to : List ℕ → K.Thing) (text : List ℕ) (number : ℕ) (text_is : text ≡ text_unless number (listing_text w))
    (known : number ≡ 0 → Within w × PathsAre K w to) where
  -- The four cases.
  data Case : Type 0 where
    refused_case : (number ≡ 0 → ⊥) → text ≡ refused_text number → Case
    endless_case : number ≡ 0 → InfinitelyMany K → text ≡ readings_word ++ endless_word → Case
    many_case : number ≡ 0 → Many K → text ≡ readings_word ++ many_word → Case
    few_case : number ≡ 0 → (l : List K.Thing) → length l < 99 → Lists K w to text l → Case

  module _ (fine : number ≡ 0) where
    lists_all : text ≡ listing_text w
    unfolding text_unless
    lists_all = text_is ∙ (rw fine)

    abbrev l : List K.Thing
    l = map to (paths w)

    long : length l ≡ length (paths w)
    long = length-map (paths w) to

    fine_case : (a b : Bool) → endless w ≡ a → ltb (path_count w) 99 ≡ b → Case
    unfolding path_count
    fine_case true b e f =
        endless_case fine ((infinite-things K w (known fine).0 to (known fine).1).0 e)
        (lists_all ∙ listing_endless w e)
    fine_case false false e f =
        let most : 99 ≤ path_count w = ltb-false (path_count w) 99 f in
        let each = things_once K w (known fine).0 to (known fine).1 e in
        many_case fine (record { number = length l; things = record { list = l; each = each; long = refl }; many = omega (arith, long, most) })
        (lists_all ∙ (listing_finite w e ∙ ap (λ (t : List ℕ). readings_word ++ t) (counted_many w (path_count w) refl most)))
    fine_case false true e f =
        let few : path_count w < 99 = ltb-true (path_count w) 99 f in
        let all : path_count w ≡ length (paths w) = omega arith in
        let each = things_once K w (known fine).0 to (known fine).1 e in
        let is : counted_text w ≡ decimal (length l) ++ (10 ∷ thing_lines K 0 l) =
        counted_few w (path_count w) refl few
        ∙ rw (all, long, lines_are_things K w (known fine).0 to (known fine).1) in
        few_case fine l (omega (arith, long, all, few))
        (record {
          each = each;
          in_order = in_path_order K w (known fine).0 to (known fine).1;
          text_is = lists_all ∙ (listing_finite w e ∙ ap (λ (t : List ℕ). readings_word ++ t) is);
        })

  refused_is : (number ≡ 0 → ⊥) → text ≡ refused_text number
  unfolding text_unless
  refused_is bad = text_is ∙ (rw (ne_eqb number 0 bad))

  this_case : Case
  this_case = on (eqb number 0) refl
    where
      on : (b : Bool) → eqb number 0 ≡ b → Case
      on true e = fine_case (eqb-true number 0 e) (endless w) (ltb (path_count w) 99) refl refl
      on false e = refused_case (eqb-false number 0 e) (refused_is (eqb-false number 0 e))

  -- A text with a line for each thing begins with their number.
  begins : (l : List K.Thing) → Lists K w to text l → Begins text (length l)
  begins l h = record { rest = thing_lines K 0 l; text_is = h.text_is }

  form : Case → Form text
  form (refused_case bad e) = refusal number e
  form (endless_case fine h e) = infinite e
  form (many_case fine h e) = many e
  form (few_case fine l h e) = count (length l) (begins l e)

  -- From the text to the case.

  text_refused : Case → (n : ℕ) → text ≡ refused_text n → (number ≡ n) × (n ≡ 0 → ⊥)
  text_refused (refused_case bad e) n h =
      let same : number ≡ n = refused_once number n (sym e ∙ h) in
      (same, λ z. bad (same ∙ z))
  text_refused (endless_case fine p e) n h = absurd (refused_or_listed text endless_word n h e)
  text_refused (many_case fine p e) n h = absurd (refused_or_listed text many_word n h e)
  text_refused (few_case fine l p e) n h = absurd (refused_or_listed text (decimal (length l) ++ (10 ∷ thing_lines K 0 l)) n h e.text_is)

  text_endless : Case → text ≡ readings_word ++ endless_word → (number ≡ 0) × InfinitelyMany K
  text_endless (refused_case bad e) h = absurd (refused_or_listed text endless_word number e h)
  text_endless (endless_case fine p e) h = (fine, p)
  text_endless (many_case fine p e) h = absurd (endless_or_many text h e)
  text_endless (few_case fine l p e) h = absurd (endless_or_count text (length l) h (begins l e))

  text_many : Case → text ≡ readings_word ++ many_word → (number ≡ 0) × Many K
  text_many (refused_case bad e) h = absurd (refused_or_listed text many_word number e h)
  text_many (endless_case fine p e) h = absurd (endless_or_many text e h)
  text_many (many_case fine p e) h = (fine, p)
  text_many (few_case fine l p e) h = absurd (many_or_count text (length l) h (begins l e))

  text_lines : Case → (n : ℕ) → Begins text n → (number ≡ 0) × ((l : List K.Thing) × Lists K w to text l × (length l ≡ n)) × (n < 99)
  text_lines (refused_case bad e) n h = absurd (refused_or_listed text (decimal n ++ (10 ∷ h.rest)) number e h.text_is)
  text_lines (endless_case fine p e) n h = absurd (endless_or_count text n e h)
  text_lines (many_case fine p e) n h = absurd (many_or_count text n e h)
  text_lines (few_case fine l p e) n h =
      let same : length l ≡ n = count_once text (length l) n (begins l e) h in
      (fine, (l, e, same), omega arith)

  -- From the case to the text.

  refused_text_of : Case → (n : ℕ) → number ≡ n → (n ≡ 0 → ⊥) → text ≡ refused_text n
  refused_text_of (refused_case bad e) n h b = e ∙ ap refused_text h
  refused_text_of (endless_case fine p e) n h b = absurd (b (sym h ∙ fine))
  refused_text_of (many_case fine p e) n h b = absurd (b (sym h ∙ fine))
  refused_text_of (few_case fine l p e) n h b = absurd (b (sym h ∙ fine))

  endless_text_of : Case → number ≡ 0 → InfinitelyMany K → text ≡ readings_word ++ endless_word
  endless_text_of (refused_case bad e) h i = absurd (bad h)
  endless_text_of (endless_case fine p e) h i = e
  endless_text_of (many_case fine p e) h i = absurd (i p.things.list p.things.each.all)
  endless_text_of (few_case fine l p e) h i = absurd (i l e.each.all)

  many_text_of : Case → number ≡ 0 → Many K → text ≡ readings_word ++ many_word
  many_text_of (refused_case bad e) h m = absurd (bad h)
  many_text_of (endless_case fine p e) h m = absurd (p m.things.list m.things.each.all)
  many_text_of (many_case fine p e) h m = e
  many_text_of (few_case fine l p e) h m =
      absurd (omega (arith, each_once_long K l m.things.list e.each m.things.each, m.things.long, m.many, p))

  few_text_of : Case → (n : ℕ) → number ≡ 0 → NumberOf K n → n < 99 → Begins text n
  few_text_of (refused_case bad e) n h m few = absurd (bad h)
  few_text_of (endless_case fine p e) n h m few = absurd (p m.list m.each.all)
  few_text_of (many_case fine p e) n h m few =
      absurd (omega (arith, each_once_long K p.things.list m.list p.things.each m.each, p.things.long, p.many, m.long))
  few_text_of (few_case fine l p e) n h m few =
      let same : length l ≡ n = each_once_long K l m.list e.each m.each ∙ m.long in
      rw same at (begins l e)

  pub printed_text : PrintedText K w to text number
  printed_text =
      record {
        form = form this_case;
        refused = λ n. (λ h. text_refused this_case n h, λ p. refused_text_of this_case n p.0 p.1);
        endless = (λ h. text_endless this_case h, λ p. endless_text_of this_case p.0 p.1);
        too_many = (λ h. text_many this_case h, λ p. many_text_of this_case p.0 p.1);
        counted =
            λ n. (
              λ h. let r = text_lines this_case n h in (r.0, record { list = r.1.0; each = r.1.1.each; long = r.1.2 }, r.2),
              λ p. few_text_of this_case n p.0 p.1 p.2,
            );
        lines = λ n h. (text_lines this_case n h).1;
      }
