-- By the laws of `FieldsCopied`; at the end `i` is the count.
use Rattle.std.proofs.Common.{◌≡◌, arith}
use Rattle.wire.specs.Bytes.{cleared}
use Rattle.codec.specs.Entry.{arc_fields}
use Rattle.codec.proofs.Copy.{FieldsCopied, fields_first, fields_next, fields_stop}
use Rattle.codec.proofs.reading.copy_fields.Goals as goal

pub loop-i-init : goal.loop-i-init
loop-i-init c = fields_first c.args.bytes.now c.args.at c.args.out.now

pub loop-i-preserved : goal.loop-i-preserved
unfolding arc_fields
loop-i-preserved c =
    fields_next c.args.bytes.now c.args.at c.args.out.now c.loop-i.i c.load_arc-a.result (omega arith) c.load_arc-a.ensures c.loop-i.invariant

pub returns : goal.returns
unfolding cleared
returns c =
    let all : c.loop-i.i ≡ c.args.count = omega arith in
    let stands : FieldsCopied c.args.bytes.now c.args.at c.args.out.now c.loop-i.out c.args.count = rw (← all) c.loop-i.invariant in
    fields_stop c.args.bytes.now c.args.at c.args.out.now c.args.count (omega arith) c.clear.ensures stands
