-- Where the arcs of a state lead that has none to an unmarked one. Assumes nothing.
use mathlib.Core.Path.{◌≡◌, refl, ap}
use mathlib.Core.Bool.{Bool, true, false, not}
use mathlib.Core.List.{List}
use Prim.Native.Nat.{ℕ, ◌<◌}
use lib.ListN.{length}
use Rattle.wire.proofs.Bool.{clash}
use Rattle.transducer.specs.Format.{Transducer}
use Rattle.transducer.specs.Path.{arc}
use Rattle.reach.proofs.Reach.{at_some_arc}
use Rattle.capped.specs.Marks.{marked}
use Rattle.paths.specs.Sweep.{leads_on}

-- Each arc of a state without an arc to an unmarked one leads to a marked one.
pub shut_marked : (t : Transducer) (ms : List Bool) (s : ℕ) → leads_on t ms s ≡ false → (i : ℕ) → i < length t.arcs → (arc t i).source ≡ s
    → marked ms (arc t i).target ≡ true
unfolding leads_on arc
shut_marked t ms s h i b e = on (marked ms (arc t i).target) refl
  where
    on : (c : Bool) → marked ms (arc t i).target ≡ c → marked ms (arc t i).target ≡ true
    on true q = q
    on false q =
        clash (at_some_arc t.arcs s (λ v. not (marked ms v)) i b e (ap not q)) h
