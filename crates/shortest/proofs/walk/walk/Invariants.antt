-- The invariant: `n` arcs are walked (`WalkedAlong`), and `near` is not behind the last arc.
use Rattle.std.proofs.Common.{◌≤◌, length}
use Rattle.transducer.specs.Format.{decode}
use Rattle.reach.proofs.Sized.{Sized}
use Rattle.relax.specs.Tentative.{cost_at, by_state}
use Rattle.shortest.specs.Tight.{first_tight}
use Rattle.shortest.proofs.Along.{WalkedAlong}
use Rattle.shortest.proofs.walk.walk.Given as goal

abbrev pub invariant-loop-n : goal.invariant-loop-n
invariant-loop-n l =
    Sized (decode l.table)
    × WalkedAlong (decode l.table) (first_tight (decode l.table) (cost_at l.costs) (by_state l.lens)) l.start l.len (length l.initial.out) l.out l.s l.n
    × (l.near ≤ l.arcs)
