-- The part of the buffer is lent to the walk; `says_behind` says what it leaves of the whole.
use Rattle.std.proofs.Common.{refl, arith}
use Rattle.explore.proofs.LentPart.{says_behind}
use Rattle.lattice.specs.Applying.{arcs_place}
use Rattle.lattice.proofs.applying.walk_behind.Goals as goal

pub returns : goal.returns
returns c = says_behind 1 _ _ c.args.table.now _ _ _ _ _ _ arcs_place (omega arith) refl c.walk_all.ensures
