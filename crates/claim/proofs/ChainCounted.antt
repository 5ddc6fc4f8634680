-- Composing and applying, one behind the other: the lattice's paths are the pairs, and a count of them is theirs. Assumes nothing.
use mathlib.Core.Path.{◌≡◌, ap, ◌∙◌}
use mathlib.Core.List.{List}
use Prim.Native.Nat.{ℕ}
use Rattle.wire.specs.Bytes.{Bytes}
use Rattle.transducer.specs.Format.{Good, refusal, decode}
use Rattle.transducer.proofs.RoundTrip.{accepted_good}
use Rattle.transducer.proofs.Runs.{Within, good_within}
use Rattle.compose.specs.Entry.{composition}
use Rattle.compose.specs.Composition.{Composition, composed_bytes}
use Rattle.compose.proofs.Called.{composable, composition_read, composition_good, composition_plain, composition_accepted, composition_pairs}
use Rattle.lattice.specs.Lattice.{lattice}
use Rattle.lattice.specs.Application.{Application, lattice_bytes}
use Rattle.lattice.proofs.Called.{applied_read, applied_good, applied_accepted, applied_reads}
use Rattle.paths.specs.Calls.{Counting}
use Rattle.claim.specs.Entry.{composition_lattice}
use Rattle.claim.specs.Kind.{PathsAre, Counts}
use Rattle.claim.specs.Claim.{Pairs, to_pair}
use Rattle.claim.proofs.Chain.{chain_pairs}
use Rattle.claim.proofs.Counting.{counts}

module _ {xs ys : List ℕ} (left_bytes : Bytes xs) (right_bytes : Bytes ys) (made : Composition xs ys) where
  good_xs : Good (decode xs)
  good_xs = accepted_good xs left_bytes (composable made).left_good

  good_ys : Good (decode ys)
  good_ys = accepted_good ys right_bytes (composable made).right_good

  pub table_read : decode (composed_bytes made) ≡ composition xs ys
  table_read = composition_read good_xs good_ys made

  pub table_accepted : refusal (composed_bytes made) ≡ 0
  table_accepted = composition_accepted good_xs good_ys made

  module _ {cs : List ℕ} (put : Application cs (composed_bytes made)) where
    good_zs : Good (decode (composed_bytes made))
    good_zs = composition_good good_xs good_ys made

    pub lattice_read : decode (lattice_bytes put) ≡ composition_lattice xs ys cs
    lattice_read = applied_read good_zs put ∙ ap (lattice cs) table_read

    pub lattice_accepted : refusal (lattice_bytes put) ≡ 0
    lattice_accepted = applied_accepted good_zs put

    pub lattice_within : Within (decode (lattice_bytes put))
    lattice_within = good_within (decode (lattice_bytes put)) (applied_good good_zs put)

    pub paths_are_pairs : PathsAre (Pairs xs ys cs) (decode (lattice_bytes put)) (to_pair made.origins_left put.origins_left)
    paths_are_pairs =
        chain_pairs xs ys cs (decode (composed_bytes made)) (decode (lattice_bytes put)) made.origins_left put.origins_left
        (composition_pairs good_xs good_ys made) (composition_plain good_xs good_ys made) (applied_reads good_zs put)

    pub counts_pairs : (n : Counting (lattice_bytes put)) → Counts (Pairs xs ys cs) n.answer
    counts_pairs n =
        counts (Pairs xs ys cs) (lattice_bytes put) (to_pair made.origins_left put.origins_left) lattice_accepted lattice_within paths_are_pairs
        n.answer n.says
