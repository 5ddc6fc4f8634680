-- One record more by `sets_arcs`; at the end `i` is the count.
use mathlib.Core.Path.{◌≡◌, refl, ap, ◌∙◌}
use Prim.Native.Nat.{◌+◌, ◌*◌}
use native.Mathlib.Omega.{arith}
use lib.Seq.{sets}
use Rattle.transducer.specs.declared.Arc.{Arc}
use Rattle.transducer.specs.Encode.{arc_record}
use Rattle.transducer.proofs.Encode.{sets_arcs, sets_no_arcs}
use Rattle.codec.specs.Entry.{arc_of}
use Rattle.codec.proofs.writing.put_arcs.Goals as goal

pub loop-i-init : goal.loop-i-init
loop-i-init c = sets_no_arcs c.args.out.now c.args.first (arc_of c.args.fields.now c.args.weights.now)

pub loop-i-preserved : goal.loop-i-preserved
loop-i-preserved c =
    let same = ap (λ (a : Arc). sets c.loop-i.out (c.args.first + 16 * c.loop-i.i) (arc_record a)) c.given_arc.ensures in
    sets_arcs c.args.out.now c.args.first (c.args.first + 16 * c.loop-i.i) c.loop-i.i (arc_of c.args.fields.now c.args.weights.now) refl
    c.loop-i.invariant (c.put_arc.ensures ∙ same)

pub returns : goal.returns
returns c =
    let all : c.loop-i.i ≡ c.args.count = omega arith in
    rw (← all) c.loop-i.invariant
