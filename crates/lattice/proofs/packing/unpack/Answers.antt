-- A mask of ones is the remainder.
use Rattle.std.proofs.Common.{◌≡◌, ◌%◌, bit_and}
use lib.Bits.{and_mask}
use Rattle.transducer.specs.Format.{max_states}
use Rattle.lattice.specs.Pack.{unpacked}
use Rattle.lattice.proofs.packing.unpack.Goals as goal

pub returns : goal.returns
unfolding unpacked
returns c = let state : bit_and c.args.key 1023 ≡ c.args.key % max_states = and_mask c.args.key 10 in rw state
