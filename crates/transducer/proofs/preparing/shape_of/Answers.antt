-- `headed` has the numbers of an accepted head.
use Rattle.std.proofs.Common.{arith}
use Rattle.wire.proofs.Low.{are_bytes}
use Rattle.transducer.proofs.Offsets.{length_accepted}
use Rattle.transducer.proofs.Headed.{headed, headed_opened}
use Rattle.transducer.proofs.preparing.shape_of.Goals as goal

pub header-head-requires : goal.header-head-requires
header-head-requires c = omega (arith, length_accepted c.args.bytes.now (are_bytes _ c.type_inv.bytes) c.requires)

pub arcs_at-first-requires : goal.arcs_at-first-requires
arcs_at-first-requires c = omega (arith, headed c.args.bytes.now (are_bytes _ c.type_inv.bytes) c.requires c.header-head.result c.header-head.ensures)

pub returns : goal.returns
returns c =
    let known = headed c.args.bytes.now (are_bytes _ c.type_inv.bytes) c.requires c.header-head.result c.header-head.ensures in
    record {
      opened = headed_opened c.args.bytes.now c.header-head.result c.arcs_at-first.result known c.arcs_at-first.ensures;
      states_are = known.states_are;
      arcs_are = known.arcs_are;
      finals_are = known.finals_are;
      start_is = known.start_is;
      few_states = known.few_states;
      start_below = known.start_below;
    }
