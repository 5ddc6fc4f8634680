-- The single claim holds of any calls that were answered as their contracts say: composing, applying and counting give the pairs and their
-- number, and the k-th path is told of the same lattice. Assumes nothing.
use mathlib.Core.List.{List}
use Prim.Native.Nat.{ℕ}
use Rattle.lattice.specs.Application.{lattice_bytes}
use Rattle.claim.specs.Kind.{PathsAre}
use Rattle.claim.specs.Claim.{Calls, Pairs, lattice_of, leads_to, Claim}
use Rattle.claim.proofs.ChainCounted.{lattice_accepted, lattice_within, paths_are_pairs, counts_pairs}
use Rattle.claim.proofs.Listing.{lists}

pub claim : {left right string : List ℕ} (c : Calls left right string) → Claim c
claim {left} {right} {string} c =
    let are : PathsAre (Pairs left right string) (lattice_of c) (leads_to c) =
    paths_are_pairs c.left_bytes c.right_bytes c.composing c.applying in
    record {
      paths = are;
      counts = counts_pairs c.left_bytes c.right_bytes c.composing c.applying c.counting;
      lists =
          lists (Pairs left right string) (lattice_bytes c.applying) (leads_to c)
          (lattice_accepted c.left_bytes c.right_bytes c.composing c.applying)
          (lattice_within c.left_bytes c.right_bytes c.composing c.applying) are c.counting.answer c.counting.says c.telling;
    }
