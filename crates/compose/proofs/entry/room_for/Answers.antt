-- Both heads are those of accepted transducers.
use Rattle.std.proofs.Common.{arith}
use Rattle.transducer.proofs.Headed.{headed, head_inside}
use Rattle.compose.proofs.entry.room_for.Goals as goal

pub header-l-requires : goal.header-l-requires
header-l-requires c = head_inside c.args.left.now (λ i. omega (arith, c.type_inv.left i)) c.requires.0

pub header-r-requires : goal.header-r-requires
header-r-requires c = head_inside c.args.right.now (λ i. omega (arith, c.type_inv.right i)) c.requires.1

pub all_read-requires : goal.all_read-requires
all_read-requires c =
    let h = headed c.args.right.now (λ i. omega (arith, c.type_inv.right i)) c.requires.1 c.header-r.result c.header-r.ensures in
    (h.opened, omega (arith, h.arcs_are))
