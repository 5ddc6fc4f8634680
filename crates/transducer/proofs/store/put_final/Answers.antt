-- Four stores, each right behind the one before, make the record.
use Rattle.std.proofs.Common.{to_z-of_z, w32, rules}
use Rattle.transducer.specs.Encode.{weight_bytes}
use Rattle.transducer.proofs.Encode.{sets_final}
use Rattle.transducer.proofs.store.put_final.Goals as goal

pub returns : goal.returns
unfolding weight_bytes
returns c =
    let x = c.args in
    sets_final x.out.now x.at x.f c.put_u16.ensures c.put_u16-2.ensures c.put_u16-3.ensures
    (rw (to_z-of_z {w = w32} {z = c.args.f.weight} (search rules)) at c.put_i32.ensures)
