-- Where a transducer has no 65,535, what is claimed of a lattice is what was claimed without it: its paths stand for those that read the string, and write
-- the same. Assumes nothing.
use mathlib.Core.Path.{◌≡◌, ◌∙◌}
use mathlib.Core.Bool.{true}
use mathlib.Core.List.{List}
use Prim.Native.Nat.{ℕ}
use Rattle.transducer.specs.Format.{Transducer}
use Rattle.transducer.specs.Path.{accepts, read_by, written_by}
use Rattle.transducer.specs.Each.{plain}
use Rattle.transducer.proofs.FitPaths.{read_path_fits, path_fits_plain, path_passed_plain}
use Rattle.trim.specs.Trim.{through}
use Rattle.lattice.specs.Lattice.{ReadsAs, ReadsOneToOne}

module _ (cs : List ℕ) (t z : Transducer) (none : plain t ≡ true) where
  pub reads_string : (path original : List ℕ) → ReadsAs cs t z path original → read_by t original ≡ cs
  reads_string path original r = path_fits_plain t none cs original r.fitting

  pub writes_same : (path original : List ℕ) → ReadsAs cs t z path original → written_by z path ≡ written_by t original
  writes_same path original r = r.same_output ∙ path_passed_plain t none cs original

  pub every_reading : (origins : List ℕ) → ReadsOneToOne cs t z origins → (x : List ℕ) → accepts t x ≡ true → read_by t x ≡ cs
      → (p : List ℕ) × (accepts z p ≡ true) × (through origins p ≡ x)
  every_reading origins one x h reads = one.every x h (rw reads at (read_path_fits t x))
