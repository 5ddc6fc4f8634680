use Rattle.std.proofs.Common.{arith, ◌≡◌, length-set, ◌∙◌}
use Rattle.listing.proofs.Loading.{load_next, load_done}
use Rattle.listing.proofs.code.load_labels.Goals as goal

pub loop-i-preserved : goal.loop-i-preserved
loop-i-preserved c =
    let l = c.loop-i in
    record {
      long = length-set l.string l.i c.u16_at.result ∙ l.invariant.long;
      loaded = load_next c.args.bytes.now l.string l.i c.u16_at.result l.invariant.long (omega arith) (omega arith) c.u16_at.ensures l.invariant.loaded;
    }

pub returns : goal.returns
returns c =
    let all : c.loop-i.i ≡ c.min-count.result = omega arith in
    rw all at (load_done c.args.bytes.now c.loop-i.string c.loop-i.i c.loop-i.invariant.long (omega arith) c.loop-i.invariant.loaded)
