use mathlib.Core.Path.{sym, ◌∙◌}
use native.Mathlib.Omega.{arith}
use Rattle.relaxation.specs.Queue.{mark}
use Rattle.relaxation.proofs.Opened.{opened}
use Rattle.relaxation.proofs.Draining.{joined_kept, joined_waits, joined_pushed, joins}
use Rattle.relaxation.proofs.worklist.relax_and_join.Goals as goal

pub bounds-marks-from : goal.bounds-marks-from
bounds-marks-from c =
    omega (arith, c.source-from.ensures.1, (opened c.args.table.now c.type_inv.table c.requires.0).states)

pub returns-in-Kept-clause-says : goal.returns-in-Kept-clause-says
returns-in-Kept-clause-says c =
    let r = c.relax.ensures in
    joins r.cells r.nearing
    (joined_kept (mark c.args.marks.now) (opened c.args.table.now c.type_inv.table c.requires.0) c.args.i c.requires.1 c.requires.5 r (λ e. cc) c.in-Kept.is)

pub returns-then-not-has-clause-says : goal.returns-then-not-has-clause-says
returns-then-not-has-clause-says c =
    let size = opened c.args.table.now c.type_inv.table c.requires.0 in
    let r = c.relax.ensures in
    joins r.cells r.nearing
    (joined_pushed (mark c.args.marks.now) size c.args.i c.requires.1 c.requires.5 r (λ e. cc) c.source-from.result c.source-from.ensures.0 c.in-Better.is
    (omega (arith, c.source-from.ensures.1, size.states, c.args.queue.now.lined.waits_long)) c.push.ensures.1 c.push.ensures.3)

pub returns-else-not-has-clause-says : goal.returns-else-not-has-clause-says
returns-else-not-has-clause-says c =
    let r = c.relax.ensures in
    joins r.cells r.nearing
    (joined_waits (mark c.args.marks.now) (opened c.args.table.now c.type_inv.table c.requires.0) c.args.i c.requires.1 c.requires.5 r (λ e. cc)
    c.source-from.result c.source-from.ensures.0 (sym c.has.ensures ∙ c.if-not-has.false))
