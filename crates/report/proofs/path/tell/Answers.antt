-- `put_labels` has the labels and where the path ends; the last state's code gives what is left of its cost.
use Rattle.std.proofs.Common.{◌≡◌, sym, ap, ◌∙◌, arith, take, slice_index_or, to_z, of_z, w32, w64, length-take-le}
use Rattle.std.proofs.Math.Facts.{to_z-of_z}
use Rattle.transducer.specs.Format.{decode}
use Rattle.transducer.specs.Weight.{Weight, plus, weight_of}
use Rattle.reach.proofs.Sized.{opened_sized}
use Rattle.report.proofs.Telling.{last_code, tells_by}
use Rattle.report.proofs.path.tell.Goals as goal

pub weight_of-requires : goal.weight_of-requires
weight_of-requires c =
    let a = c.args in
    let last = last_code (decode a.table.now) (opened_sized c.type_inv.table c.requires.0) (take a.len a.arcs.now) a.codes.now c.requires.5
    c.put_labels-end.ensures c.requires.2 in
    (last.some, last.low)

pub returns : goal.returns
returns c =
    let a = c.args in
    let end = c.put_labels-end in
    let last = last_code (decode a.table.now) (opened_sized c.type_inv.table c.requires.0) (take a.len a.arcs.now) a.codes.now c.requires.5
    end.ensures c.requires.2 in
    let code = slice_index_or a.codes.now end.result.state 0 in
    let weight = to_z-of_z {w = w32} (record { sfits = c.weight_of.type_inv }) ∙ c.weight_of.ensures.0 in
    let sum = to_z-of_z {w = w64} (record { sfits = omega (arith, end.ensures.low) }) in
    let cost : c.plus-cost.result ≡ plus end.result.cost (weight_of code) =
    c.plus-cost.ensures ∙ (ap (λ (z : Weight). plus z (to_z w32 (of_z w32 c.weight_of.result))) sum ∙ ap (plus end.result.cost) weight) in
    rw c.answer.ensures
    (tells_by (decode a.table.now) (take a.len a.arcs.now) _ a.len
    (to_z-of_z {w = w64} (record { sfits = c.plus-cost.type_inv }) ∙ (cost ∙ last.costs))
    (sym (length-take-le a.len a.arcs.now c.requires.3)) end.ensures)
