-- Worked rows: what an arc for any symbol writes for symbol 6. Definition and code that are misread alike are refused here. Assumes nothing.
use Rattle.std.proofs.Common.{◌≡◌, ℕ, refl}
use Rattle.transducer.specs.declared.Arc.{Arc}
use Rattle.transducer.specs.Format.{any}
use Rattle.transducer.specs.Weight.{no_weight}
use Rattle.transducer.specs.Each.{passed}

abbrev any_arc : (output : ℕ) → Arc
any_arc output = record { source = 0; input = any; output = output; target = 0; weight = no_weight }

pub record PassedRows : Type 0 where
  pub its_own : passed 6 (any_arc 5) ≡ 5
  pub passed_on : passed 6 (any_arc any) ≡ 6
  pub nothing : passed 6 (any_arc 0) ≡ 0

pub passed_rows : PassedRows
unfolding passed
passed_rows = record { its_own = refl; passed_on = refl; nothing = refl }
