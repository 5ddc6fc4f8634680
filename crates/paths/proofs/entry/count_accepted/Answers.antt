use Rattle.paths.specs.Sweep.{at_state}
use Rattle.paths.proofs.Ready.{sized_read}
use Rattle.paths.proofs.CountSays.{count_endless, count_known, count_found}
use Rattle.paths.proofs.entry.count_accepted.Goals as goal

pub returns-in-Some : goal.returns-in-Some
returns-in-Some c = count_known c.in-Some.ensures.finite c.in-Some.ensures.complete

pub returns-in-Endless : goal.returns-in-Endless
returns-in-Endless c = count_endless c.in-Endless.ensures.0

pub returns-in-Finite : goal.returns-in-Finite
unfolding at_state
returns-in-Finite c =
    count_found {cs = c.in-Finite.counts} {start = c.shape_of-shape.result.start} (sized_read c.args.table.now c.type_inv.table c.requires)
    c.in-Finite.ensures c.shape_of-shape.ensures.start_is
