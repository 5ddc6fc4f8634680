-- The comparison is that of the definition, as the costs go over as they are.
use Rattle.std.proofs.Common.{◌≡◌, ◌∙◌, sym, ap, not, rules, w32, to_z, of_z}
use Rattle.transducer.specs.Format.{decode}
use Rattle.relax.specs.Size.{nearer}
use Rattle.relax.specs.Tentative.{unpacked, cost_at, by_state}
use Rattle.relax.proofs.Bounds.{cell_back}
use Rattle.shortest.proofs.Tight.{seeking_here, seeking_next, seeking_stop}
use Rattle.shortest.proofs.walk.first_giving.Goals as goal

pub returns-then-not-comes_first : goal.returns-then-not-comes_first
returns-then-not-comes_first c =
    let a = c.args in
    let by = c.by_arc-by in
    let cost : to_z w32 (of_z w32 by.result.cost) ≡ by.result.cost = search rules in
    let own : to_z w32 (of_z w32 (cost_at a.costs.now a.s)) ≡ cost_at a.costs.now a.s = cell_back c.requires.4 a.s in
    let test : c.comes_first.result ≡ nearer (cost_at a.costs.now a.s) (by_state a.lens.now a.s) by.result.cost (unpacked by.result.size) =
    c.comes_first.ensures ∙ (rw (own, cost)) in
    seeking_here (decode a.table.now) (cost_at a.costs.now) (by_state a.lens.now) a.s a.from a.to c.loop-i.i
    by.result.cost (unpacked by.result.size) c.loop-i.invariant c.loop-i-test.true by.ensures.0 by.ensures.1
    (ap not (sym test ∙ c.if-not-comes_first.true))

pub loop-i-preserved : goal.loop-i-preserved
loop-i-preserved c =
    let a = c.args in
    let by = c.by_arc-by in
    let cost : to_z w32 (of_z w32 by.result.cost) ≡ by.result.cost = search rules in
    let own : to_z w32 (of_z w32 (cost_at a.costs.now a.s)) ≡ cost_at a.costs.now a.s = cell_back c.requires.4 a.s in
    let test : c.comes_first.result ≡ nearer (cost_at a.costs.now a.s) (by_state a.lens.now a.s) by.result.cost (unpacked by.result.size) =
    c.comes_first.ensures ∙ (rw (own, cost)) in
    seeking_next (decode a.table.now) (cost_at a.costs.now) (by_state a.lens.now) a.s a.from a.to c.loop-i.i
    by.result.cost (unpacked by.result.size) c.loop-i.invariant c.loop-i-test.true by.ensures.0 by.ensures.1
    (ap not (sym test ∙ c.if-not-comes_first.false))

pub returns : goal.returns
returns c =
    seeking_stop (decode c.args.table.now) (cost_at c.args.costs.now) (by_state c.args.lens.now) c.args.s c.args.from c.args.to c.loop-i.i
    c.loop-i.invariant c.loop-i-test.false
