use mathlib.Core.Path.{refl}
use Prim.Native.Nat.{◌-◌}
use native.Mathlib.Omega.{arith}
use Rattle.transducer.specs.Format.{decode}
use Rattle.reach.proofs.ByTarget.{ArcThere, link_arc, link_less}
use Rattle.relaxation.proofs.Opened.{opened}
use Rattle.relaxation.proofs.Draining.{relaxing_first, relaxing_next, relaxing_stop, drains}
use Rattle.relaxation.proofs.worklist.relax_into.Goals as goal

-- The arc of a turn.
here : (c : goal.In-loop-link) → ArcThere (decode c.args.table.now) c.args.s c.loop-link.link (c.loop-link.link - 1)
here c = link_arc c.loop-link.invariant.linked c.loop-link-test.true

pub bounds-heads-s : goal.bounds-heads-s
bounds-heads-s c =
    let size = opened c.args.table.now c.type_inv.table c.requires.0 in
    omega (arith, c.requires.3, size.states)

pub loop-link-init : goal.loop-link-init
loop-link-init c =
    let size = opened c.args.table.now c.type_inv.table c.requires.0 in
    relaxing_first c.requires.2 c.args.s (omega (arith, c.requires.3, size.states)) c.args.queue.now.count c.requires.4

pub offset_bounds-links-i : goal.offset_bounds-links-i
offset_bounds-links-i c =
    let size = opened c.args.table.now c.type_inv.table c.requires.0 in
    omega (arith, (here c).below, size.arcs)

pub bounds-links-i : goal.bounds-links-i
bounds-links-i c =
    let size = opened c.args.table.now c.type_inv.table c.requires.0 in
    omega (arith, (link_arc c.loop-link.invariant.linked c.loop-link-test.true).below, size.arcs)

pub loop-link-smaller : goal.loop-link-smaller
loop-link-smaller c = link_less c.requires.2 c.args.s (link_arc c.loop-link.invariant.linked c.loop-link-test.true)

pub loop-link-preserved : goal.loop-link-preserved
loop-link-preserved c =
    let r = c.relax_and_join.ensures.says in
    relaxing_next c.requires.2 c.args.s c.loop-link.invariant (c.loop-link.link - 1) (link_arc c.loop-link.invariant.linked c.loop-link-test.true)
    r.cells r.nearing (r.joined (rw c.in_ok-relax_and_join.was refl))

pub returns-clause-says : goal.returns-clause-says
returns-clause-says c = drains (relaxing_stop c.loop-link.invariant (omega (arith, c.loop-link-test.false))) c.loop-link.invariant.falls
