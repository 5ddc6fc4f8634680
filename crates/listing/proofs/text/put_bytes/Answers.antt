use Rattle.std.proofs.Common.{arith, length, ◌+◌, ◌-◌}
use Rattle.listing.proofs.Wrote.{wrote_part}
use Rattle.listing.proofs.text.put_bytes.Goals as goal

pub returns : goal.returns
returns c =
    let a = c.args in
    wrote_part a.out.now a.text.now c.copy_from_slice.new.self a.at (a.at + length a.text.now - a.at) c.requires c.copy_from_slice.ensures.after (omega arith)
