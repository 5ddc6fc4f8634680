use Rattle.std.proofs.Common.{◌≡◌, sym, ap, ◌∙◌}
use Rattle.std.proofs.Math.ListN.{get_or}
use mathlib.Core.Path.{ap₂}
use mir.Syntax.{w32}
use mir.Val.{SFits, to_z, of_z}
use mir.Facts.{to_z-of_z}
use Rattle.transducer.specs.Format.{weight_good}
use Rattle.transducer.specs.Weight.{plus, weight_of}
use Rattle.transducer.proofs.Weights.{plus_fits}
use Rattle.explore.proofs.PutFinals.{finishing_first, finishing_none, finishing_more}
use Rattle.compose.specs.Finished.{key_final, key_weight}
use Rattle.compose.proofs.KeyFinals.{left_not_final, right_not_final, both_final, both_weight}
use Rattle.compose.proofs.finish.put_finals.Goals.{then-a-ne0+then-b-ne0, else-a-ne0, else-a-ne0-via-then-a-ne0+else-b-ne0, else-a-ne0-via-else-a-ne0}
use Rattle.compose.proofs.finish.put_finals.Goals as goal

pub loop-s-init : goal.loop-s-init
loop-s-init c =
    let x = c.args in
    finishing_first (key_final x.lcodes.now x.rcodes.now) (key_weight x.lcodes.now x.rcodes.now) x.states.now x.count x.table.now

-- The sum of two weights in range fits, and so is the one that the code adds.
pub overflow_add-weight : goal.overflow_add-weight
overflow_add-weight c =
    let l = c.weight_of in
    let r = c.weight_of-then-b-ne0 in
    let lf : SFits w32 l.result = record { sfits = l.type_inv } in
    let rf : SFits w32 r.result = record { sfits = r.type_inv } in
    rw (to_z-of_z lf, to_z-of_z rf) (plus_fits l.result r.result l.ensures.1 r.ensures.1)

pub loop-s-preserved : goal.loop-s-preserved
loop-s-preserved c =
    let x = c.args in
    let ls = x.lcodes.now in
    let rs = x.rcodes.now in
    let key = get_or x.states.now c.loop-s.s 0 in
    let p = c.unpack-x.result in
    elim c.if-a-ne0.branch [
      | then-a-ne0+then-b-ne0 w ↦
          let l = w.weight_of in
          let r = w.weight_of-then-b-ne0 in
          let put = w.put_final in
          let lf : SFits w32 l.result = record { sfits = l.type_inv } in
          let rf : SFits w32 r.result = record { sfits = r.type_inv } in
          let weight : to_z w32 (of_z w32 (plus (to_z w32 (of_z w32 l.result)) (to_z w32 (of_z w32 r.result)))) ≡ plus l.result r.result =
          rw (to_z-of_z lf, to_z-of_z rf) (to_z-of_z (plus_fits l.result r.result l.ensures.1 r.ensures.1)) in
          let value : plus l.result r.result ≡ plus (weight_of (get_or ls p.left 0)) (weight_of (get_or rs p.right 0)) =
          ap₂ plus l.ensures.0 r.ensures.0 in
          rw (w.table-is, w.finals-is, w.overflow-is)
          (finishing_more (key_final ls rs) (key_weight ls rs) x.states.now c.loop-s.invariant c.loop-s-test.true c.requires.stored _
          (plus l.result r.result) w.weight_ok.result
          (both_final ls rs key p c.unpack-x.ensures w.if-a-ne0.true w.if-b-ne0.true)
          (value ∙ sym (both_weight ls rs key p c.unpack-x.ensures)) (rw weight at put.ensures) put.auto.out
          (w.weight_ok.ensures ∙ ap weight_good weight))
      | else-a-ne0 w ↦
          rw (w.table-is, w.finals-is, w.overflow-is)
          (finishing_none (key_final ls rs) (key_weight ls rs) x.states.now c.loop-s.invariant c.loop-s-test.true c.requires.stored
          (elim w.else-a-ne0.branch [
            | else-a-ne0-via-then-a-ne0+else-b-ne0 v ↦ right_not_final ls rs key p c.unpack-x.ensures v.if-a-ne0.true v.if-b-ne0.false
            | else-a-ne0-via-else-a-ne0 v ↦ left_not_final ls rs key p c.unpack-x.ensures v.if-a-ne0.false
          ]))
    ]
