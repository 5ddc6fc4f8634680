-- By the index the arcs are just those of the state; without it they end with all arcs.
use Rattle.std.proofs.Common.{refl, ◌+◌, arith}
use Rattle.transducer.specs.Format.{decode}
use Rattle.transducer.proofs.Index.{arcs_below_length}
use Rattle.paths.proofs.Ready.{range}
use Rattle.shortest.proofs.walk.arcs_from.Goals as goal

pub returns-in-Some : goal.returns-in-Some
returns-in-Some c =
    let indexed = rw c.in-Some.is at c.requires.indexed in
    let r = range (decode c.args.table.now) c.in-Some.index.now c.args.s _ _ indexed c.requires.asked.2 refl refl in
    record { from_is = r.from_is; to_high = omega (arith, r.to_is); to_inside = r.inside }

pub returns-in-None : goal.returns-in-None
returns-in-None c =
    record {
      from_is = c.first_arc.ensures;
      to_high = omega (arith, c.requires.asked.1, arcs_below_length (c.args.s + 1) (decode c.args.table.now).arcs);
      to_inside = omega arith;
    }
