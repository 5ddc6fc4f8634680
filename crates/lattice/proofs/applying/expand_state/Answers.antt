-- Each answer hands the facts of the state served, `serves`, and of the arc of the turn to a law of `ServedArcs`.
use Rattle.std.proofs.Common.{◌<◌, ◌≡◌, ◌∙◌, refl, ap, arith, rules, length, get_or, w32, to_z, of_z}
use borrow.Author.Tests.{eq-eqb, ne_eqb}
use Rattle.transducer.specs.Format.{decode}
use Rattle.lattice.specs.declared.State.{State}
use Rattle.lattice.specs.Pack.{unpacked}
use Rattle.lattice.proofs.ServedArcs.{Reads, reads_nothing, reads_itself, reads_other, symbol_read, none_taken}
use Rattle.lattice.proofs.ServedArcs.{serving_first, serving_skip, serving_stop}
use Rattle.lattice.proofs.Serving.{serves, target_position, target_small, fits_label, turned}
use Rattle.lattice.proofs.applying.expand_state.Goals.{then-input-label+else-input-ne0, else-input-label+then-input-symbol, else-input-label+else-input-symbol}
use Rattle.lattice.proofs.applying.expand_state.Goals as goal

pub bounds-index-q : goal.bounds-index-q
bounds-index-q c = omega (arith, (serves c.requires.good c.requires.applicable.0 c.requires.applicable.2 c.unpack-x.ensures).state_small)

pub bounds-index-q-2 : goal.bounds-index-q-2
bounds-index-q-2 c = omega (arith, (serves c.requires.good c.requires.applicable.0 c.requires.applicable.2 c.unpack-x.ensures).state_small)

pub label_at-label-requires-clause-by_index : goal.label_at-label-requires-clause-by_index
label_at-label-requires-clause-by_index c = (_, (serves c.requires.good c.requires.applicable.0 c.requires.applicable.2 c.unpack-x.ensures).leaving)

pub loop-i-init : goal.loop-i-init
loop-i-init c = λ b k.
    let s = serves c.requires.good c.requires.applicable.0 c.requires.applicable.2 c.unpack-x.ensures in
    serving_first c.args.operands.now.string.now (decode c.args.operands.now.bytes.now) c.args.operands.now.index.now c.args.source c.unpack-x.result
    c.requires.good c.requires.applicable.0.indexed c.unpack-x.ensures s.state_in c.requires.applicable.1 k

pub arc_of-a-requires : goal.arc_of-a-requires
arc_of-a-requires c =
    let s = serves c.requires.good c.requires.applicable.0 c.requires.applicable.2 c.unpack-x.ensures in
    (c.requires.applicable.0.opened, omega (arith, c.loop-i-test.true, s.last_within))

pub loop-i-preserved-then-input-ne0 : goal.loop-i-preserved-then-input-ne0
loop-i-preserved-then-input-ne0 c = λ b k.
    let z = c.args.operands.now in
    let cs = z.string.now in
    let t = decode z.bytes.now in
    let x = unpacked (get_or c.args.states.now c.args.source 0) in
    let a = c.arc_of-a.result in
    let i = c.loop-i.i in
    let symbol_is = symbol_read cs c.unpack-x.result c.symbol_at-symbol.ensures c.unpack-x.ensures in
    let fit = fits_label cs t x i c.label_at-label.result symbol_is c.arc_of-a.ensures (c.label_at-label.ensures i (omega arith) c.loop-i-test.true) in
    serving_skip cs t x (c.loop-i.invariant b k) c.loop-i-test.true
    (none_taken cs t x i c.args.source a c.arc_of-a.ensures c.if-input-ne0.true (fit ∙ ne_eqb a.input c.label_at-label.result c.if-input-label.true))

pub overflow_add-x : goal.overflow_add-x
overflow_add-x c =
    let s = serves c.requires.good c.requires.applicable.0 c.requires.applicable.2 c.unpack-x.ensures in
    omega (arith, target_position s c.if-input-label.read c.moved.ensures)

pub pack-to-requires : goal.pack-to-requires
pack-to-requires c =
    let s = serves c.requires.good c.requires.applicable.0 c.requires.applicable.2 c.unpack-x.ensures in
    (omega (arith, target_position s c.if-input-label.read c.moved.ensures), target_small s c.loop-i.i c.requires.good c.arc_of-a.ensures c.loop-i-test.true)

pub take_step-walk-requires-clause-i_lt_max_arcs : goal.take_step-walk-requires-clause-i_lt_max_arcs
take_step-walk-requires-clause-i_lt_max_arcs c =
    let s = serves c.requires.good c.requires.applicable.0 c.requires.applicable.2 c.unpack-x.ensures in
    omega (arith, c.loop-i-test.true, s.last_within, s.few_arcs)

pub returns-then-walk-ne0 : goal.returns-then-walk-ne0
returns-then-walk-ne0 c = λ b k.
    let z = c.args.operands.now in
    let cs = z.string.now in
    let t = decode z.bytes.now in
    let x = unpacked (get_or c.args.states.now c.args.source 0) in
    let a = c.arc_of-a.result in
    let i = c.loop-i.i in
    let s = serves c.requires.good c.requires.applicable.0 c.requires.applicable.2 c.unpack-x.ensures in
    let symbol_is = symbol_read cs c.unpack-x.result c.symbol_at-symbol.ensures c.unpack-x.ensures in
    let fit = fits_label cs t x i c.label_at-label.result symbol_is c.arc_of-a.ensures (c.label_at-label.ensures i (omega arith) c.loop-i-test.true) in
    let below : i < length t.arcs = omega (arith, c.loop-i-test.true, s.last_within) in
    let reads : Reads cs t x a c.if-input-label.read c.if-input-label.output =
    elim c.if-input-label.branch [
      | then-input-label+else-input-ne0 w ↦
          reads_nothing cs t x c.requires.good i below a c.arc_of-a.ensures _ _ w.read-is w.output-is w.if-input-ne0.false
      | else-input-label+then-input-symbol w ↦
          reads_other symbol_is w.if-input-symbol.true (fit ∙ eq-eqb a.input c.label_at-label.result w.if-input-label.false)
          w.read-is (w.output-is ∙ w.passed-output.ensures)
      | else-input-label+else-input-symbol w ↦
          reads_itself cs t x c.requires.good i below a c.arc_of-a.ensures _ _ w.read-is w.output-is c.requires.applicable.0.good
          (w.if-input-symbol.false ∙ symbol_is)
    ] in
    let same : c.unpack-x.result.position ≡ x.position = ap (λ (y : State). y.position) c.unpack-x.ensures in
    let weight : to_z w32 (of_z w32 a.weight) ≡ a.weight = search rules in
    let g = c.loop-i.invariant b k in
    (turned cs t x _ g c.loop-i-test.true a c.arc_of-a.ensures refl c.pack-to.result c.pack-to.ensures _ _ c.moved.result reads c.moved.ensures
    (omega (arith, same)) _ weight (c.take_step-walk.ensures g.sofar g.walked)).full c.if-walk-ne0.true

pub loop-i-preserved : goal.loop-i-preserved
loop-i-preserved c = λ b k.
    let z = c.args.operands.now in
    let cs = z.string.now in
    let t = decode z.bytes.now in
    let x = unpacked (get_or c.args.states.now c.args.source 0) in
    let a = c.arc_of-a.result in
    let i = c.loop-i.i in
    let s = serves c.requires.good c.requires.applicable.0 c.requires.applicable.2 c.unpack-x.ensures in
    let symbol_is = symbol_read cs c.unpack-x.result c.symbol_at-symbol.ensures c.unpack-x.ensures in
    let fit = fits_label cs t x i c.label_at-label.result symbol_is c.arc_of-a.ensures (c.label_at-label.ensures i (omega arith) c.loop-i-test.true) in
    let below : i < length t.arcs = omega (arith, c.loop-i-test.true, s.last_within) in
    let reads : Reads cs t x a c.if-input-label.read c.if-input-label.output =
    elim c.if-input-label.branch [
      | then-input-label+else-input-ne0 w ↦
          reads_nothing cs t x c.requires.good i below a c.arc_of-a.ensures _ _ w.read-is w.output-is w.if-input-ne0.false
      | else-input-label+then-input-symbol w ↦
          reads_other symbol_is w.if-input-symbol.true (fit ∙ eq-eqb a.input c.label_at-label.result w.if-input-label.false)
          w.read-is (w.output-is ∙ w.passed-output.ensures)
      | else-input-label+else-input-symbol w ↦
          reads_itself cs t x c.requires.good i below a c.arc_of-a.ensures _ _ w.read-is w.output-is c.requires.applicable.0.good
          (w.if-input-symbol.false ∙ symbol_is)
    ] in
    let same : c.unpack-x.result.position ≡ x.position = ap (λ (y : State). y.position) c.unpack-x.ensures in
    let weight : to_z w32 (of_z w32 a.weight) ≡ a.weight = search rules in
    let g = c.loop-i.invariant b k in
    (turned cs t x _ g c.loop-i-test.true a c.arc_of-a.ensures refl c.pack-to.result c.pack-to.ensures _ _ c.moved.result reads c.moved.ensures
    (omega (arith, same)) _ weight (c.take_step-walk.ensures g.sofar g.walked)).on c.if-walk-ne0.false

pub returns : goal.returns
returns c = λ b k.
    serving_stop c.args.operands.now.string.now (decode c.args.operands.now.bytes.now) (unpacked (get_or c.args.states.now c.args.source 0))
    (c.loop-i.invariant b k) c.loop-i-test.false
