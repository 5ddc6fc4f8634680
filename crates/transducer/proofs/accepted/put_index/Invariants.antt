-- The arcs of the first `block` blocks are marked.
use Rattle.std.proofs.Common.{◌*◌, take}
use Rattle.transducer.specs.Format.{decode}
use Rattle.transducer.specs.Accepted.{EndsMarked}
use Rattle.transducer.proofs.accepted.put_index.Given as goal

abbrev pub invariant-loop-block : goal.invariant-loop-block
invariant-loop-block l = EndsMarked (take (128 * l.block) (decode l.fn.bytes).arcs) l.index
