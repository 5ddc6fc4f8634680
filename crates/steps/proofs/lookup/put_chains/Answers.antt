-- A store loop over the right arcs, from the last to the first.
use mathlib.Core.Path.{◌≡◌, sym, ap, ◌∙◌}
use Prim.Native.Nat.{suc, ◌-◌, ◌+◌, ◌*◌, ◌≤◌}
use native.Mathlib.Omega.{arith}
use lib.ListN.{length}
use Rattle.wire.specs.Bytes.{Bytes, two}
use Rattle.transducer.specs.Format.{decode}
use Rattle.transducer.specs.Path.{arc}
use Rattle.transducer.proofs.AcceptedAt.{opened_inside, opened_few, source_in_place, input_in_place}
use Rattle.steps.proofs.Links.{Filling, filling_first, filling_leads, filling_next}
use Rattle.steps.proofs.lookup.put_chains.Goals as goal

pub loop-j-init : goal.loop-j-init
loop-j-init c =
    let a = c.args in
    let r = c.requires in
    let few = opened_few a.right.now (λ i. omega (arith, c.type_inv.right i)) a.rfirst r.0 in
    filling_first (decode a.right.now) a.arcs a.heads.now a.chain.now a.next_same_label.now r.1 few r.2 (omega arith) (omega arith)

-- In a turn: the arc's record lies within the bytes.
inside : (c : goal.In-loop-j) → c.args.rfirst + 16 * c.loop-j.j ≤ length c.args.right.now
inside c = opened_inside c.args.right.now (λ i. omega (arith, c.type_inv.right i)) c.args.rfirst c.requires.0 c.loop-j.j c.loop-j.invariant.within

pub overflow_add-place : goal.overflow_add-place
overflow_add-place c = omega (arith, inside c)

pub overflow_add-place-in-loop-j : goal.overflow_add-place-in-loop-j
overflow_add-place-in-loop-j c = omega (arith, inside c)

pub u16_at-q-requires : goal.u16_at-q-requires
u16_at-q-requires c = omega (arith, inside c)

inside_q : (c : goal.After-u16_at-q) → c.args.rfirst + 16 * c.loop-j.j ≤ length c.args.right.now
inside_q c = opened_inside c.args.right.now (λ i. omega (arith, c.type_inv.right i)) c.args.rfirst c.requires.0 c.loop-j.j c.loop-j.invariant.within

pub overflow_add-place-in-loop-j-2 : goal.overflow_add-place-in-loop-j-2
overflow_add-place-in-loop-j-2 c = omega (arith, inside_q c)

pub u16_at-label-requires : goal.u16_at-label-requires
u16_at-label-requires c = omega (arith, inside_q c)

pub loop-j-preserved : goal.loop-j-preserved
loop-j-preserved c =
    let a = c.args in
    let bytes : Bytes a.right.now = λ i. omega (arith, c.type_inv.right i) in
    let u = decode a.right.now in
    let j = c.loop-j.j - 1 in
    let is : suc j ≡ c.loop-j.j = omega (arith, c.loop-j-test.true) in
    let filled : Filling u (suc j) c.loop-j.heads c.loop-j.chain c.loop-j.next_same_label = rw is c.loop-j.invariant in
    let place : a.rfirst + 16 * j + 6 ≡ a.rfirst + 16 * j + 4 + 2 = omega arith in
    let source : (arc u j).source ≡ c.u16_at-q.result = source_in_place a.right.now bytes a.rfirst c.requires.0 j filled.within ∙ sym c.u16_at-q.ensures in
    let label : (arc u j).input ≡ c.u16_at-label.result =
    input_in_place a.right.now bytes a.rfirst c.requires.0 j filled.within ∙ ap (two a.right.now) place ∙ sym c.u16_at-label.ensures in
    let leads = filling_leads filled c.u16_at-q.result c.u16_at-label.result c.label_bucket-b.result c.label_bucket-b.ensures.0 c.label_bucket-b.ensures.1 in
    filling_next filled c.label_bucket-b.result _ c.along.result (rw (source, label) c.label_bucket-b.ensures.0) c.label_bucket-b.ensures.1 (omega arith)
    (rw (source, label) (c.along.ensures (suc j) leads))
