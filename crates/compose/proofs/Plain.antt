-- Where no right arc bears 65,535, pairs are what they were without it: the right path reads what the left one writes, and what stands for them writes
-- what it writes. Assumes nothing.
use mathlib.Core.Path.{◌≡◌, sym, ◌∙◌}
use mathlib.Core.Bool.{true}
use mathlib.Core.List.{List}
use Prim.Native.Nat.{ℕ}
use Rattle.transducer.specs.Format.{Transducer}
use Rattle.transducer.specs.Path.{accepts, read_by, written_by}
use Rattle.transducer.specs.Each.{plain}
use Rattle.transducer.proofs.FitPaths.{read_path_fits, path_fits_plain, path_passed_plain}
use Rattle.compose.specs.Claim.{Pair, StandsFor, TwoPaths, PairBetween}

module _ (t u : Transducer) (none : plain u ≡ true) (left right : List ℕ) where
  pub pair_reads : Pair t u left right → written_by t left ≡ read_by u right
  pair_reads p = sym (path_fits_plain u none (written_by t left) right p.meets)

  pub reads_pair : accepts t left ≡ true → accepts u right ≡ true → written_by t left ≡ read_by u right → Pair t u left right
  reads_pair a b e = record { left_accepts = a; right_accepts = b; meets = rw e (read_path_fits u right) }

  pub stands_writes : (z : Transducer) (path : List ℕ) → StandsFor t u z path left right → written_by z path ≡ written_by u right
  stands_writes z path s = s.writes ∙ path_passed_plain u none (written_by t left) right

module _ (t u : Transducer) (none : plain u ≡ true) (input output : List ℕ) (paths : TwoPaths) where
  pub between_writes : PairBetween t u input output paths → written_by u paths.right ≡ output
  between_writes b = sym (path_passed_plain u none (written_by t paths.left) paths.right) ∙ b.writes

  pub writes_between : Pair t u paths.left paths.right → read_by t paths.left ≡ input → written_by u paths.right ≡ output
      → PairBetween t u input output paths
  writes_between pair reads writes =
      record { pair = pair; reads = reads; writes = path_passed_plain u none (written_by t paths.left) paths.right ∙ writes }
