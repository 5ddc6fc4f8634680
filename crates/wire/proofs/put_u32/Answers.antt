use Rattle.std.proofs.Common.{◌+◌, ◌-◌, ◌/◌, List, ℕ, [], ◌∷◌, bit_and, rules, arith}
use Rattle.wire.proofs.Low.{low_four_masked}
use Rattle.wire.proofs.Places.{put_mid_sets}
use Rattle.wire.proofs.put_u32.Goals as goal

pub returns : goal.returns
returns c =
    let v = c.args.value in
    let bytes : List ℕ = bit_and v 255 ∷ bit_and (v / 256) 255 ∷ bit_and (v / 65536) 255 ∷ v / 16777216 ∷ [] in
    rw (low_four_masked v (omega (arith, c.ranges.value)))
    (put_mid_sets c.args.at (c.args.at + 4 - c.args.at) c.args.out.now c.copy_from_slice.new.self bytes (omega arith) (omega arith) (search rules))
