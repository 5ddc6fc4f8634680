-- A chain of tests; each answer is a law of `FitsOnly`.
use mathlib.Core.Path.{◌≡◌, sym, subst, ◌∙◌}
use Prim.Native.Nat.{ℕ, ◌+◌, ◌*◌, ◌≤◌, ◌<◌}
use native.Mathlib.Omega.{arith}
use lib.ListN.{length}
use Rattle.wire.specs.Bytes.{Bytes}
use Rattle.transducer.specs.Format.{decode}
use Rattle.transducer.specs.Path.{arc}
use Rattle.transducer.proofs.AcceptedAt.{opened_inside, opened_few, input_in_place}
use Rattle.steps.specs.Runs.{FitsOnly}
use Rattle.steps.proofs.Only.{none_fits, one_fits}
use Rattle.steps.proofs.runs.only_label.Goals as goal

pub overflow_add-from : goal.overflow_add-from
overflow_add-from c =
    let r = c.requires in
    let few = opened_few c.args.right.now (λ i. omega (arith, c.type_inv.right i)) c.args.rfirst r.0 in
    omega arith

pub returns-then-from-to-2 : goal.returns-then-from-to-2
returns-then-from-to-2 c = λ q leaving is. none_fits c.if-from-to-2.true

-- There is one arc, and its record lies within the bytes.
inside : (c : goal.Else-from-to-2) → c.args.rfirst + 16 * (c.args.from + 1) ≤ length c.args.right.now
inside c =
    opened_inside c.args.right.now (λ i. omega (arith, c.type_inv.right i)) c.args.rfirst c.requires.0 (c.args.from + 1)
    (omega (arith, c.if-from-to-2.false, c.requires.1, c.requires.2))

pub overflow_mul-from : goal.overflow_mul-from
overflow_mul-from c = omega (arith, inside c)

pub overflow_add-rfirst : goal.overflow_add-rfirst
overflow_add-rfirst c = omega (arith, inside c)

pub overflow_add-rfirst-2 : goal.overflow_add-rfirst-2
overflow_add-rfirst-2 c = omega (arith, inside c)

pub u16_at-requires : goal.u16_at-requires
u16_at-requires c = omega (arith, inside c)

pub returns : goal.returns
returns c = λ q leaving is.
    let a = c.args in
    let bytes : Bytes a.right.now = λ i. omega (arith, c.type_inv.right i) in
    let one : a.from < a.to = omega (arith, c.if-from-to-2.false, c.requires.1) in
    let label : (arc (decode a.right.now) a.from).input ≡ c.u16_at.result =
    input_in_place a.right.now bytes a.rfirst c.requires.0 a.from (omega (arith, c.requires.2)) ∙ sym c.u16_at.ensures in
    subst (λ (n : ℕ). FitsOnly (decode a.right.now) a.from a.to n) label
    (one_fits a.wild leaving is c.if-wild-to.false one (omega (arith, c.if-from-to.false)))
