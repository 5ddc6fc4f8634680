-- The laws of `Tracing` at a left origin that is an arc of the lattice, and at 65,535.
use Rattle.std.proofs.Common.{◌*◌, ◌<◌, refl, ap, arith, get_or, set}
use Rattle.transducer.specs.Format.{max_arcs}
use Rattle.std.proofs.Math.ListN.{length-set}
use Rattle.cascade.proofs.Tracing.{tracing_first, tracing_next, tracing_stay}
use Rattle.cascade.proofs.trace_left.Goals.{in-Some, in_default}
use Rattle.cascade.proofs.trace_left.Goals as goal

pub loop-i-init : goal.loop-i-init
loop-i-init c = tracing_first c.args.arcs.now c.args.count c.args.origins.now

pub loop-i-preserved : goal.loop-i-preserved
loop-i-preserved c =
    let a = c.args in
    let h = c.loop-i in
    elim c.match-get.branch [
      | in-Some w ↦
          let found = rw w.in-Some.is at c.get.ensures.lookup in
          let j = get_or h.origins (2 * h.i) 0 in
          let below : j < max_arcs = omega (arith, found.3.0) in
          rw w.origins-is
          (tracing_next a.arcs.now a.count a.origins.now h.origins h.i h.invariant c.requires c.loop-i-test.true j _ refl below
          (ap (set h.origins (2 * h.i)) (found.4 (omega arith) 0)) (length-set h.origins (2 * h.i) _))
      | in_default w ↦
          let none = rw w.in_default.is at c.get.ensures.lookup in
          rw w.origins-is
          (tracing_stay a.arcs.now a.count a.origins.now h.origins h.i h.invariant c.requires c.loop-i-test.true (omega (arith, none.3)))
    ]
