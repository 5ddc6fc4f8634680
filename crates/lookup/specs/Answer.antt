-- What looking up answers, as numbers. Assumes nothing: these are definitions.
use Rattle.std.specs.Prelude.{ℕ, ℤ, Result, Ok, Err}
use Rattle.transducer.specs.Answer.{Refusal, number}
use Rattle.transducer.specs.Weight.{no_weight}
use Rattle.lookup.specs.declared.Found.{Found}
use Rattle.lookup.specs.declared.LatticeCount.{LatticeCount}

-- The refusal or 0, the number of accepting paths, 99 standing for 99 or more, and the least cost; both 0 on refusal.
pub record LookedUp : Type 0 where
  pub refusal : ℕ
  pub count : ℕ
  pub cost : ℤ

abbrev pub lookup_of : Result Found Refusal → LookedUp
lookup_of (Ok f) = record { refusal = 0; count = f.count; cost = f.cost }
lookup_of (Err e) = record { refusal = number e; count = 0; cost = no_weight }

-- The refusal or 0, the number of accepting paths, and the number of bytes of the lattice; both 0 on refusal.
pub record StringCount : Type 0 where
  pub refusal : ℕ
  pub count : ℕ
  pub len : ℕ

abbrev pub count_of : Result LatticeCount Refusal → StringCount
count_of (Ok c) = record { refusal = 0; count = c.count; len = c.len }
count_of (Err e) = record { refusal = number e; count = 0; len = 0 }
