-- Where the first arc of a state stands, by the source of one arc: sources never fall. Assumes nothing.
use mathlib.Core.Path.{◌≡◌}
use mathlib.Core.Bool.{true}
use Prim.Native.Nat.{ℕ, suc, ◌≤◌, ◌<◌}
use native.Mathlib.Decide.{dec_le}
use native.Mathlib.Omega.{arith}
use lib.ListN.{length}
use Rattle.transducer.specs.Format.{Transducer, sources_stay}
use Rattle.transducer.specs.Path.{arc}
use Rattle.transducer.specs.Accepted.{arcs_below}
use Rattle.transducer.proofs.Good.{Content, sources_stay_good}
use Rattle.transducer.proofs.Index.{source_below, below_source}

pub before_first : (t : Transducer) (i s : ℕ) → Content t → i < length t.arcs → (arc t i).source < s → i < arcs_below s t.arcs
unfolding arc
before_first t i s good l h = source_below 0 s t.arcs i (sources_stay_good t good) l h

pub first_before : (t : Transducer) (i s : ℕ) → Content t → i < length t.arcs → s ≤ (arc t i).source → arcs_below s t.arcs ≤ i
unfolding arc
first_before t i s good l h = on (dec_le (suc i) (arcs_below s t.arcs)) (sources_stay_good t good)
  where
    on : Dec (i < arcs_below s t.arcs) → sources_stay 0 t.arcs ≡ true → arcs_below s t.arcs ≤ i
    on (yes y) stay = absurd (omega (arith, below_source 0 s t.arcs i stay l y))
    on (no n) stay = omega arith
