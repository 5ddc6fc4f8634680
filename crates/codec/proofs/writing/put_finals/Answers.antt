-- One record more by `sets_finals`; at the end `i` is the count.
use mathlib.Core.Path.{◌≡◌, refl, ap, ◌∙◌}
use Prim.Native.Nat.{◌+◌, ◌*◌}
use native.Mathlib.Omega.{arith}
use lib.Seq.{sets}
use Rattle.transducer.specs.Format.{head_bytes}
use Rattle.transducer.specs.declared.Final.{Final}
use Rattle.transducer.specs.Encode.{final_record}
use Rattle.transducer.proofs.Encode.{sets_finals, sets_no_finals}
use Rattle.codec.specs.Entry.{final_of}
use Rattle.codec.proofs.writing.put_finals.Goals as goal

pub loop-i-init : goal.loop-i-init
loop-i-init c = sets_no_finals c.args.out.now head_bytes (final_of c.args.states.now c.args.weights.now)

pub loop-i-preserved : goal.loop-i-preserved
loop-i-preserved c =
    let same = ap (λ (f : Final). sets c.loop-i.out (head_bytes + 10 * c.loop-i.i) (final_record f)) c.given_final.ensures in
    sets_finals c.args.out.now head_bytes (head_bytes + 10 * c.loop-i.i) c.loop-i.i (final_of c.args.states.now c.args.weights.now) refl
    c.loop-i.invariant (c.put_final.ensures ∙ same)

pub returns : goal.returns
returns c =
    let all : c.loop-i.i ≡ c.args.count = omega arith in
    rw (← all) c.loop-i.invariant
