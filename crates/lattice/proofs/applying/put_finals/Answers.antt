-- The laws of `Putting` at a turn that writes a final, and at one that doesn't.
use Rattle.std.proofs.Common.{arith, ap, ◌∙◌, List, ℕ, get_or, w32, to_z-of_z}
use Rattle.std.proofs.lemmas.List.Edits.{sets}
use Rattle.transducer.specs.Encode.{final_record}
use Rattle.transducer.specs.Weight.{Weight}
use Rattle.lattice.proofs.KeyFinals.{key_code_small, putting_first, putting_room, putting_none, putting_more, putting_stop}
use Rattle.lattice.proofs.applying.put_finals.Goals.{then-code-ne0, else-code-ne0}
use Rattle.lattice.proofs.applying.put_finals.Goals as goal

pub loop-s-init : goal.loop-s-init
loop-s-init c = putting_first c.args.codes.now c.args.last c.args.states.now c.args.count c.args.table.now

pub weight_of-requires : goal.weight_of-requires
weight_of-requires c =
    let x = c.args in
    (omega arith, rw c.code_of-code.ensures (key_code_small x.codes.now x.last (get_or x.states.now c.loop-s.s 0) c.requires.3))

pub put_final-requires : goal.put_final-requires
put_final-requires c =
    let x = c.args in
    let h = c.loop-s in
    putting_room x.codes.now x.last x.states.now x.count h.finals h.s c.code_of-code.result c.loop-s-test.true c.requires.0 c.code_of-code.ensures
    x.table.now h.table h.invariant c.if-code-ne0.true c.requires.2 c.arcs_at.ensures

pub loop-s-preserved : goal.loop-s-preserved
loop-s-preserved c =
    let x = c.args in
    let h = c.loop-s in
    let code = c.code_of-code in
    elim c.if-code-ne0.branch [
      | then-code-ne0 w ↦
          let weight = to_z-of_z {w = w32} (record { sfits = w.weight_of.type_inv }) ∙ w.weight_of.ensures.0 in
          let stored : Weight → List ℕ = λ v. sets h.table w.arcs_at.result (final_record (record { state = h.s; weight = v })) in
          rw (w.table-is, w.finals-is)
          (putting_more x.codes.now x.last x.states.now x.count h.finals h.s code.result c.loop-s-test.true c.requires.0 code.ensures
          x.table.now h.table h.invariant _ w.if-code-ne0.true w.arcs_at.ensures (w.put_final.ensures ∙ ap stored weight) w.put_final.auto.out)
      | else-code-ne0 w ↦
          rw (w.table-is, w.finals-is)
          (putting_none x.codes.now x.last x.states.now x.count h.finals h.s code.result c.loop-s-test.true c.requires.0 code.ensures
          x.table.now h.table h.invariant w.if-code-ne0.false)
    ]

pub returns : goal.returns
returns c =
    let x = c.args in
    let h = c.loop-s in
    putting_stop x.codes.now x.last x.states.now x.count h.finals h.s x.table.now h.table (omega arith) h.invariant
