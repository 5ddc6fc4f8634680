use Rattle.std.proofs.Common.{arith, rules, to_z-of_z, w32}
use Rattle.wire.proofs.Low.{are_bytes}
use Rattle.transducer.proofs.Finals.{final_inside, coded_first, coded_state, coded_weight, coded_next, coded_stop}
use Rattle.transducer.proofs.accepted.put_codes.Goals as goal

pub loop-i-init : goal.loop-i-init
loop-i-init c = rw c.requires.2 (coded_first c.args.bytes.now)

pub overflow_mul-i : goal.overflow_mul-i
overflow_mul-i c = omega (arith, final_inside c.args.bytes.now (are_bytes _ c.type_inv.bytes) c.requires.0 c.loop-i.i (omega arith))

pub overflow_add-i : goal.overflow_add-i
overflow_add-i c = omega (arith, final_inside c.args.bytes.now (are_bytes _ c.type_inv.bytes) c.requires.0 c.loop-i.i (omega arith))

pub load_final-f-requires : goal.load_final-f-requires
load_final-f-requires c = final_inside c.args.bytes.now (are_bytes _ c.type_inv.bytes) c.requires.0 c.loop-i.i (omega arith)

pub code_of-requires : goal.code_of-requires
code_of-requires c =
    rw (to_z-of_z {w = w32} {z = c.load_final-f.result.weight} (search rules))
    (coded_weight c.args.bytes.now (are_bytes _ c.type_inv.bytes) c.requires.0 c.load_final-f.result (omega arith) c.load_final-f.ensures)

pub bounds-codes-f : goal.bounds-codes-f
bounds-codes-f c = coded_state c.args.bytes.now (are_bytes _ c.type_inv.bytes) c.requires.0 {i = c.loop-i.i} c.load_final-f.result (omega arith) c.load_final-f.ensures

pub loop-i-preserved : goal.loop-i-preserved
loop-i-preserved c =
    rw (c.code_of.ensures.0, to_z-of_z {w = w32} {z = c.load_final-f.result.weight} (search rules))
    (coded_next c.args.bytes.now (are_bytes _ c.type_inv.bytes) c.requires.0 c.load_final-f.result (omega arith) c.load_final-f.ensures c.loop-i.invariant)

pub returns : goal.returns
returns c = coded_stop c.args.bytes.now (are_bytes _ c.type_inv.bytes) c.requires.0 (omega arith) c.loop-i.invariant
