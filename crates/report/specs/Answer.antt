-- What is answered of a path, as numbers: those that C gets. Assumes nothing: these are definitions.
use Rattle.std.specs.Prelude.{ℕ, ℤ, Result, Ok, Err}
use Rattle.transducer.specs.Answer.{Refusal}
use Rattle.transducer.specs.Answer.{number}
use Rattle.transducer.specs.Weight.{no_weight}
use Rattle.report.specs.declared.PathNumbers.{PathNumbers}

-- The refusal or 0, then the cost and how many arcs and labels the path has, 0 on refusal.
pub record Told : Type 0 where
  pub refusal : ℕ
  pub cost : ℤ
  pub arcs : ℕ
  pub labels : ℕ

abbrev pub told_of : PathNumbers → Told
told_of p = record { refusal = 0; cost = p.cost; arcs = p.arcs; labels = p.labels }

abbrev pub told : Result PathNumbers Refusal → Told
told (Ok p) = told_of p
told (Err e) = record { refusal = number e; cost = no_weight; arcs = 0; labels = 0 }
