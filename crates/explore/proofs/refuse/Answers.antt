-- Three buffers cleared from the front.
use Rattle.std.proofs.Common.{[], refl}
use Rattle.wire.specs.Bytes.{cleared}
use Rattle.explore.proofs.EncodeStored.{filled_front}
use Rattle.explore.proofs.refuse.Goals as goal

pub returns-clause-zeros : goal.returns-clause-zeros
unfolding cleared
returns-clause-zeros g c =
    record {
      table = filled_front [] c.args.table.now _ 0 refl refl c.clear.ensures;
      origins = filled_front [] c.args.origins.now _ 0 refl refl c.clear-2.ensures;
      states = filled_front [] c.args.states.now _ 0 refl refl c.clear-3.ensures;
    }
