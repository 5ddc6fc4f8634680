use mathlib.Core.Path.{refl}
use native.Mathlib.Omega.{arith}
use Rattle.transducer.specs.Format.{decode}
use Rattle.relaxation.proofs.Opened.{opened}
use Rattle.relaxation.proofs.Draining.{draining_popped, popped_less, draining_stop}
use Rattle.relaxation.proofs.worklist.drain.Goals as goal

pub relax_into-requires : goal.relax_into-requires
relax_into-requires c =
    let size = opened c.args.table.now c.type_inv.table c.requires.0 in
    let came = c.in-Some.ensures.taken in (
      c.requires.0,
      c.requires.1,
      c.by_target.ensures,
      c.loop-s.invariant.inside c.in-Some.s came.1,
      draining_popped c.loop-s.invariant c.in-Some.s came.3
          (omega (arith, c.loop-s.queue.lined.waits_long, c.loop-s.invariant.inside c.in-Some.s came.1, size.states)),
    )

pub loop-s-smaller : goal.loop-s-smaller
loop-s-smaller c =
    popped_less (decode c.args.table.now) c.loop-s.costs c.loop-s.lens c.loop-s.queue.count c.pop.new.self.count c.in-Some.ensures.taken.5
    (c.relax_into.ensures.says.falls (rw c.in_ok-relax_into.was refl))

pub returns-clause-says : goal.returns-clause-says
returns-clause-says c =
    let size = opened c.args.table.now c.type_inv.table c.requires.0 in
    draining_stop size c.loop-s.invariant (c.in_default.ensures.empty refl)
