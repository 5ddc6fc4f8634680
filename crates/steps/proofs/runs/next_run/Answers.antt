-- Each left arc at hand has a step, or none (`seeking_silent`, `seeking_unmet`).
use mathlib.Core.Path.{◌≡◌, refl, sym, ◌∙◌}
use mathlib.Core.List.{List}
use Prim.Native.Nat.{ℕ, ◌+◌, ◌*◌, ◌≤◌, ◌<◌}
use native.Mathlib.Omega.{arith}
use lib.ListN.{length}
use Rattle.wire.specs.Bytes.{Bytes, two}
use Rattle.transducer.specs.Format.{decode}
use Rattle.transducer.specs.Path.{arc}
use Rattle.transducer.specs.Accepted.{AcceptedAt}
use Rattle.transducer.proofs.AcceptedAt.{opened_inside, output_in_place}
use Rattle.steps.proofs.Links.{named_first, wild_first, empty_first}
use Rattle.steps.proofs.RunCode.{seeking_alone, seeking_silent, seeking_met, seeking_unmet, seeking_stop}
use Rattle.steps.proofs.runs.next_run.Goals as goal
use Rattle.steps.proofs.runs.next_run.Goals.{then-label-eq0+else-filter-eq0, else-label-eq0+else-j-to+else-wild-to}

-- In a turn: the arc's record lies within the bytes.
inside : (c : goal.In-loop-at) → c.args.lfirst + 16 * (c.loop-at.at + 1) ≤ length c.args.left.now
inside c =
    let pre = c.requires.accepted_at in
    opened_inside c.args.left.now (λ i. omega (arith, c.type_inv.left i)) c.args.lfirst pre.0 (c.loop-at.at + 1) (omega (arith, pre.2))

pub overflow_mul-at : goal.overflow_mul-at
overflow_mul-at c = omega (arith, inside c)

pub overflow_add-lfirst : goal.overflow_add-lfirst
overflow_add-lfirst c = omega (arith, inside c)

pub overflow_add-lfirst-in-loop-at : goal.overflow_add-lfirst-in-loop-at
overflow_add-lfirst-in-loop-at c = omega (arith, inside c)

pub u16_at-label-requires : goal.u16_at-label-requires
u16_at-label-requires c = omega (arith, inside c)

-- The label that is loaded is the arc's.
loaded : (left : List ℕ) (first k last label : ℕ) → Bytes left → AcceptedAt left first × (k < last) × (last ≤ length (decode left).arcs)
    → label ≡ two left (first + 16 * k + 8) → (arc (decode left) k).output ≡ label
loaded left first k last label bytes pre e = output_in_place left bytes first pre.0 k (omega (arith, pre.1, pre.2)) ∙ sym e

pub returns-then-filter-eq0 : goal.returns-then-filter-eq0
returns-then-filter-eq0 c = λ from leaving is fit.
    let a = c.args in
    let pre = c.requires.accepted_at in
    let label = loaded a.left.now a.lfirst c.loop-at.at a.last c.u16_at-label.result (λ i. omega (arith, c.type_inv.left i)) (pre.0, c.loop-at-test.true, pre.2) c.u16_at-label.ensures in
    seeking_alone c.loop-at-test.true (label ∙ c.if-label-eq0.true) c.if-filter-eq0.true (c.loop-at.invariant from leaving is fit)

pub returns-then-j-to : goal.returns-then-j-to
returns-then-j-to c = λ from leaving is fit.
    let a = c.args in
    let pre = c.requires.accepted_at in
    let label = loaded a.left.now a.lfirst c.loop-at.at a.last c.u16_at-label.result (λ i. omega (arith, c.type_inv.left i)) (pre.0, c.loop-at-test.true, pre.2) c.u16_at-label.ensures in
    let found = c.first_reading-j.ensures from leaving in
    seeking_met c.loop-at-test.true (λ e. c.if-label-eq0.false (sym label ∙ e)) (rw label (named_first _ _ leaving found c.if-j-to.true)) leaving.rest.order
    c.if-j-to.true (c.loop-at.invariant from leaving is fit)

pub returns-then-wild-to : goal.returns-then-wild-to
returns-then-wild-to c = λ from leaving is fit.
    let a = c.args in
    let pre = c.requires.accepted_at in
    let label = loaded a.left.now a.lfirst c.loop-at.at a.last c.u16_at-label.result (λ i. omega (arith, c.type_inv.left i)) (pre.0, c.loop-at-test.true, pre.2) c.u16_at-label.ensures in
    let wild = wild_first _ c.first_reading-j.result leaving (c.first_reading-j.ensures from leaving) c.if-j-to.false c.if-label-eq0.false _ is in
    seeking_met c.loop-at-test.true (λ e. c.if-label-eq0.false (sym label ∙ e)) (rw label wild) leaving.rest.order c.if-wild-to.true
    (c.loop-at.invariant from leaving is fit)

pub loop-at-preserved : goal.loop-at-preserved
loop-at-preserved c = λ from leaving is fit.
    let a = c.args in
    let pre = c.requires.accepted_at in
    let label = loaded a.left.now a.lfirst c.loop-at.at a.last c.u16_at-label.result (λ i. omega (arith, c.type_inv.left i)) (pre.0, c.loop-at-test.true, pre.2) c.u16_at-label.ensures in
    let inv = c.loop-at.invariant from leaving is fit in
    elim c.if-label-eq0.branch [
      | then-label-eq0+else-filter-eq0 w ↦ seeking_silent c.loop-at-test.true (label ∙ w.if-label-eq0.true) w.if-filter-eq0.false inv
      | else-label-eq0+else-j-to+else-wild-to w ↦
          seeking_unmet c.loop-at-test.true (λ e. w.if-label-eq0.false (sym label ∙ e))
          (rw label (wild_first _ w.first_reading-j.result leaving (w.first_reading-j.ensures from leaving) w.if-j-to.false w.if-label-eq0.false _ is))
          leaving.rest.order w.if-wild-to.false inv
    ]

pub returns : goal.returns
returns c = λ from leaving is fit.
    seeking_stop c.first_reading.result c.loop-at-test.false (empty_first _ _ leaving (c.first_reading.ensures from leaving) refl)
    (c.loop-at.invariant from leaving is fit)
