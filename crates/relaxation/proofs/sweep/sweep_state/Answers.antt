use mathlib.Core.Path.{◌≡◌, sym, ap, ◌∙◌}
use mathlib.Core.Bool.{true}
use Prim.Native.Nat.{◌-◌}
use mir.Syntax.{w32}
use mir.Val.{to_z, of_z}
use Rattle.transducer.specs.Format.{decode}
use Rattle.transducer.specs.Weight.{Weight}
use Rattle.relax.specs.Tentative.{cost_at, by_state, is_nearest}
use Rattle.relax.proofs.Bounds.{cell_back}
use Rattle.relaxation.proofs.ByStates.{going_passed, going_next, going_long}
use Rattle.relaxation.proofs.sweep.sweep_state.Goals as goal

pub loop-i-preserved-in-Kept : goal.loop-i-preserved-in-Kept
loop-i-preserved-in-Kept c =
    let a = c.args in
    going_next (decode a.table.now) c.requires.2 c.requires.3 a.s a.from a.to c.requires.4 (to_z w32 (of_z w32 a.bar)) a.costs.now c.loop-i.i c.loop-i.costs
    c.loop-i.lens c.loop-i.invariant c.loop-i-test.true c.relax.new.costs c.relax.new.lens c.relax.result c.relax.ensures (λ e. cc)

pub returns-in-TooLong : goal.returns-in-TooLong
returns-in-TooLong c =
    let a = c.args in
    going_long (decode a.table.now) c.requires.2 c.requires.3 a.s a.from a.to c.requires.4 (to_z w32 (of_z w32 a.bar)) a.costs.now c.loop-i.i c.loop-i.costs
    c.loop-i.lens c.loop-i.invariant c.loop-i-test.true c.relax.new.costs c.relax.new.lens c.relax.result c.relax.ensures

pub returns-then-is_nearest : goal.returns-then-is_nearest
returns-then-is_nearest c =
    let a = c.args in
    let bar : Weight = to_z w32 (of_z w32 a.bar) in
    let near =
    going_next (decode a.table.now) c.requires.2 c.requires.3 a.s a.from a.to c.requires.4 bar a.costs.now c.loop-i.i c.loop-i.costs
    c.loop-i.lens c.loop-i.invariant c.loop-i-test.true c.relax.new.costs c.relax.new.lens c.relax.result c.relax.ensures (λ e. cc) in
    let l = by_state c.relax.new.lens a.s in
    let e : is_nearest bar (cost_at c.relax.new.costs a.s) l ≡ true =
    sym (c.is_nearest.ensures ∙ ap (λ (x : Weight). is_nearest bar x l) (cell_back near.swept.cells a.s)) ∙ c.if-is_nearest.true in
    going_passed (decode a.table.now) c.requires.2 c.requires.3 a.s a.from a.to c.requires.4 bar a.costs.now (c.loop-i.i - 1) c.relax.new.costs c.relax.new.lens near e

pub loop-i-preserved : goal.loop-i-preserved
loop-i-preserved c =
    let a = c.args in
    going_next (decode a.table.now) c.requires.2 c.requires.3 a.s a.from a.to c.requires.4 (to_z w32 (of_z w32 a.bar)) a.costs.now c.loop-i.i c.loop-i.costs
    c.loop-i.lens c.loop-i.invariant c.loop-i-test.true c.relax.new.costs c.relax.new.lens c.relax.result c.relax.ensures (λ e. cc)
