-- If nothing is refused, the paths of the lattice are the pairs. Assumes nothing.
use mathlib.Core.Path.{◌≡◌}
use mathlib.Core.Bool.{true}
use mathlib.Core.List.{List}
use Prim.Native.Nat.{ℕ}
use Rattle.wire.specs.Bytes.{Bytes}
use Rattle.transducer.specs.Format.{Transducer, Good, decode}
use Rattle.transducer.specs.Each.{has_no_any_input}
use Rattle.transducer.proofs.RoundTrip.{accepted_good}
use Rattle.transducer.proofs.Runs.{Within, good_within}
use Rattle.transducer.proofs.Answers.{or_else_none}
use Rattle.explore.specs.Explore.{built_refusal}
use Rattle.compose.specs.Compose.{composed}
use Rattle.compose.specs.Entry.{composition, composition_refusal, origin_pairs}
use Rattle.compose.proofs.Called.{Composable, unrefused_composable}
use Rattle.compose.proofs.Claimed.{composed_one_to_one}
use Rattle.compose.proofs.Written.{composed_plain, composed_good}
use Rattle.lattice.specs.Apply.{string_good, applied}
use Rattle.lattice.specs.Lattice.{lattice_origins}
use Rattle.lattice.proofs.Called.{Appliable}
use Rattle.lattice.proofs.LatticeGood.{lattice_good}
use Rattle.lattice.proofs.LatticeLaw.{lattice_one_to_one}
use Rattle.claim.specs.Kind.{PathsAre}
use Rattle.claim.specs.Claim.{Pairs}
use Rattle.claim.proofs.Chain.{chain_pairs}
use Rattle.claim.specs.Entry.{composition_lattice}
use Rattle.listing.specs.Code.{labels_in}
use Rattle.listing.specs.Entry.{applied_refusal, listing_refusal}
use Rattle.listing.proofs.Steps.{applied_fine}
use Rattle.printed.specs.Printed.{leads_to}

module _ (xs ys cs : List ℕ) (bytes_xs : Bytes xs) (bytes_ys : Bytes ys) (fine : listing_refusal xs ys cs ≡ 0) where
  abbrev s : List ℕ
  s = labels_in cs

  abbrev z : Transducer
  z = composition xs ys

  abbrev w : Transducer
  w = composition_lattice xs ys s

  record Passed : Type 0 where
    left_good : Good (decode xs)
    left_no_any : has_no_any_input (decode xs) ≡ true
    right_good : Good (decode ys)
    composes : built_refusal z ≡ 0
    string : string_good s ≡ true
    applies : built_refusal (applied s z).result ≡ 0

  passed : Passed
  unfolding listing_refusal
  passed =
      let both = or_else_none (composition_refusal xs ys) (applied_refusal z cs) fine in
      let made : Composable xs ys = unrefused_composable xs ys both.0 in
      let put : Appliable s z = applied_fine z cs both.1 in
      record {
        left_good = accepted_good xs bytes_xs made.left_good;
        left_no_any = made.left_no_any;
        right_good = accepted_good ys bytes_ys made.right_good;
        composes = made.fine;
        string = put.string;
        applies = put.fine;
      }

  good_z : Good z
  good_z = composed_good (decode xs) (decode ys) passed.left_good passed.left_no_any passed.right_good passed.composes

  pub good_lattice : Good w
  good_lattice = lattice_good s z good_z passed.string passed.applies

  pub within : Within w
  within = good_within w good_lattice

  pub pairs : PathsAre (Pairs xs ys s) w (leads_to xs ys s)
  pairs =
      chain_pairs xs ys s z w (origin_pairs (composed (decode xs) (decode ys)).steps) (lattice_origins s z)
      (composed_one_to_one (decode xs) (decode ys) passed.left_good passed.right_good passed.composes)
      (composed_plain (decode xs) (decode ys) passed.left_good passed.left_no_any passed.right_good)
      (lattice_one_to_one s z good_z passed.string passed.applies)
