-- The marks from both ends are those of useful states, so their running sums are the new numbers; where each state is accessible, those from
-- the finals are.
use Rattle.std.proofs.Common.{sym}
use Rattle.transducer.specs.Format.{decode}
use Rattle.trim.proofs.Useful.{both_useful, coaccessible_useful}
use Rattle.trim.proofs.renumber.renumber.Goals as goal

pub returns-then-all_accessible : goal.returns-then-all_accessible
returns-then-all_accessible c =
    let t = decode c.args.table.now in
    let all = c.requires.6 c.if-all_accessible.true in
    c.running.ensures t (sym c.requires.1) (λ s l. coaccessible_useful t all c.coaccessible-coaccessible.ensures s (rw c.requires.1 at l))

pub returns : goal.returns
returns c =
    let t = decode c.args.table.now in
    c.running-2.ensures t (sym c.requires.1)
    (λ s l. both_useful t c.accessible-accessible.ensures c.coaccessible-coaccessible.ensures s (rw c.requires.1 at l))
