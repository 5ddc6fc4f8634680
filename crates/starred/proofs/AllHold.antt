-- The one proof of the starred cases: each row of the table holds, by computing what the definitions give. Only the counts of 98 to 100 like
-- arcs go by the round trip of the bytes, since to read 1,600 bytes by the definitions takes long.
-- Assumes nothing.
use mathlib.Core.Path.{◌≡◌, refl, ap₂}
use mathlib.Core.Bool.{false}
use mathlib.Core.List.{List, [], ◌∷◌}
use Prim.Native.Nat.{ℕ}
use lib.ListN.{take, drop, replicate}
use Rattle.wire.specs.Bytes.{low, signed_low, every}
use Rattle.transducer.specs.Weight.{no_weight, amount}
use Rattle.transducer.specs.Format.{Transducer, Good, weight_good, labels_good, head_good, states_good, finals_rise, sources_stay, order_good}
use Rattle.transducer.specs.Format.{all_labels_good, weights_good, first_of, content_refusal}
use Rattle.transducer.specs.Encode.{weight_bytes, head_record, final_record, arc_record, final_records, arc_records, encode}
use Rattle.transducer.specs.Path.{is_final}
use Rattle.transducer.specs.Each.{by_number, each_arc}
use Rattle.transducer.specs.Entry.{or_else}
use Rattle.transducer.proofs.RoundTrip.{refusal_encode, decode_encode}
use Rattle.reach.specs.Reach.{coaccessible, some_arc}
use Rattle.paths.specs.Count.{paths_from, paths, goes_on, endless, path_count}
use Rattle.paths.specs.Entry.{count_refusal}
use Rattle.starred.specs.Answer.{Answer, AllHold, counts, or_refused, defined}
use Rattle.starred.specs.Answer.Call.{counting}
use Rattle.starred.specs.Cases.{repeated, like_arcs, cases}
use Rattle.starred.proofs.Computing.{definitions, together}

cons : {x y : Answer} {xs ys : List Answer} → x ≡ y → xs ≡ ys → (x ∷ xs) ≡ (y ∷ ys)
cons e h = ap₂ ◌∷◌ e h

-- The transducer whose bytes are those of so many like arcs.
unfoldable alike : ℕ → Transducer
alike n =
    record {
      states = 2;
      start = 0;
      finals = record { state = 1; weight = no_weight } ∷ [];
      arcs = replicate n (record { source = 0; input = 1; output = 2; target = 1; weight = amount 5 });
    }

-- The count of bytes that a good transducer has is that of the transducer.
counted : (bs : List ℕ) (t : Transducer) → bs ≡ encode t → Good t → endless t ≡ false → defined (counting bs) ≡ counts (path_count t)
unfolding defined count_refusal or_else or_refused
counted bs t written good finite = rw (written, refusal_encode t good, decode_encode t good, finite) refl

like_arcs_hold : (x y z : ℕ) → AllHold (take 3 (drop 13 (cases x y z)))
unfolding alike repeated encode head_record final_records final_record arc_records arc_record weight_bytes signed_low low every head_good
    content_refusal first_of
    states_good order_good finals_rise sources_stay all_labels_good labels_good weights_good weight_good endless goes_on coaccessible some_arc path_count
    paths paths_from each_arc by_number is_final
like_arcs_hold x y z =
    cons (counted (like_arcs 98) (alike 98) refl (record { head = refl; content = refl }) refl)
    (cons (counted (like_arcs 99) (alike 99) refl (record { head = refl; content = refl }) refl)
    (cons (counted (like_arcs 100) (alike 100) refl (record { head = refl; content = refl }) refl) refl))

-- The first thirteen rows, the three of like arcs, the rest.
pub all_hold : (x y z : ℕ) → AllHold (cases x y z)
unfolding definitions repeated
all_hold x y z =
    together (take 13 (cases x y z)) (drop 13 (cases x y z)) refl
    (together (take 3 (drop 13 (cases x y z))) (drop 16 (cases x y z)) (like_arcs_hold x y z) refl)
