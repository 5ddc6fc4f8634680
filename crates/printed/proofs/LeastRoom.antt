-- No text is longer than the least length of its buffer. Assumes nothing.
use mathlib.Core.Path.{◌≡◌, refl}
use mathlib.Core.Bool.{Bool, true, false, cond}
use mathlib.Core.List.{List}
use Prim.Native.Nat.{ℕ, ◌%◌, ◌≤◌}
use native.Mathlib.Omega.{arith}
use borrow.Author.Tests.{eqb-true}
use lib.Dec.{eqb, ltb}
use lib.ListN.{length}
use Rattle.wire.specs.Bytes.{Bytes}
use Rattle.wire.proofs.Bool.{cond_most}
use Rattle.transducer.specs.Format.{Transducer, Good, refusal, decode, weights_good, max_states, max_arcs}
use Rattle.transducer.specs.Encode.{encode}
use Rattle.transducer.specs.Each.{has_no_any_input, any_refusal}
use Rattle.transducer.specs.Entry.{or_else}
use Rattle.transducer.proofs.Most.{refusal_most}
use Rattle.transducer.proofs.RoundTrip.{bytes_encode, decode_encode, refusal_encode}
use Rattle.explore.specs.Explore.{built_refusal}
use Rattle.compose.specs.Entry.{composition, composition_refusal}
use Rattle.lattice.specs.Apply.{string_good, applied}
use Rattle.lattice.specs.ApplyEntry.{application_refusal}
use Rattle.paths.proofs.Ready.{Sized, sized}
use Rattle.claim.specs.Entry.{composition_lattice}
use Rattle.listing.specs.Code.{labels_in}
use Rattle.listing.specs.Text.{listing_text, refused_text, least_room}
use Rattle.listing.specs.Entry.{applied_refusal, listing_refusal, text_unless, text_of}
use Rattle.listing.proofs.Short.{refused_short}
use Rattle.listing.proofs.NthLine.{listing_short}
use Rattle.printed.proofs.Pairs.{good_lattice}

-- A refusal is at most 18.

or_else_most : (a b : ℕ) → a ≤ 18 → b ≤ 18 → or_else a b ≤ 18
unfolding or_else
or_else_most a b p q = cond_most (eqb a 0) b a q p

built_most : (t : Transducer) → built_refusal t ≤ 18
unfolding built_refusal
built_most t =
    cond_most (ltb max_states t.states) 11 (cond (ltb max_arcs (length t.arcs)) 12 (cond (weights_good t) 0 13)) (omega arith)
    (cond_most (ltb max_arcs (length t.arcs)) 12 (cond (weights_good t) 0 13) (omega arith) (cond_most (weights_good t) 0 13 (omega arith) (omega arith)))

listing_most : (xs ys cs : List ℕ) → listing_refusal xs ys cs ≤ 18
unfolding listing_refusal composition_refusal any_refusal applied_refusal application_refusal
listing_most xs ys cs =
    let z : Transducer = composition xs ys in
    let any : ℕ = cond (has_no_any_input (decode xs)) 0 18 in
    let right : ℕ = or_else (refusal ys) (built_refusal z) in
    let string : ℕ = cond (string_good (labels_in cs)) 0 9 in
    let built : ℕ = built_refusal (applied (labels_in cs) z).result in
    or_else_most (or_else (refusal xs) (or_else any right)) (cond (eqb (length cs % 2) 0) (or_else string built) 9)
    (or_else_most (refusal xs) (or_else any right) (omega (arith, refusal_most xs))
    (or_else_most any right (cond_most (has_no_any_input (decode xs)) 0 18 (omega arith) (omega arith))
    (or_else_most (refusal ys) (built_refusal z) (omega (arith, refusal_most ys)) (built_most z))))
    (cond_most (eqb (length cs % 2) 0) (or_else string built) 9
    (or_else_most string built (cond_most (string_good (labels_in cs)) 0 9 (omega arith) (omega arith)) (built_most (applied (labels_in cs) z).result))
    (omega arith))

-- A transducer that can be written has a short listing.
good_short : (t : Transducer) → Good t → length (listing_text t) ≤ least_room
good_short t good =
    let size : Sized t = rw (decode_encode t good) at (sized (encode t) (bytes_encode t) (refusal_encode t good)) in
    listing_short t size

pub text_short : (xs ys cs : List ℕ) → Bytes xs → Bytes ys → length (text_of xs ys cs) ≤ least_room
unfolding text_of text_unless
text_short xs ys cs bytes_xs bytes_ys = on (eqb (listing_refusal xs ys cs) 0) refl
  where
    on : (b : Bool) → eqb (listing_refusal xs ys cs) 0 ≡ b
        → length (cond (eqb (listing_refusal xs ys cs) 0) (listing_text (composition_lattice xs ys (labels_in cs))) (refused_text (listing_refusal xs ys cs)))
        ≤ least_room
    on true e = rw e (good_short (composition_lattice xs ys (labels_in cs)) (good_lattice xs ys cs bytes_xs bytes_ys (eqb-true (listing_refusal xs ys cs) 0 e)))
    on false e = rw e (omega (arith, refused_short (listing_refusal xs ys cs) (omega (arith, listing_most xs ys cs))))
