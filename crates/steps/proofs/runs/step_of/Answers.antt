-- The code is the definition, with the right arc read in place. Acceptance bounds its number, its target and its weight.
use borrow.Author.Rules.{rules}
use native.Mathlib.Omega.{arith}
use mathlib.Core.Path.{◌≡◌}
use mathlib.Core.Bool.{true}
use mathlib.Core.List.{List}
use Prim.Native.Nat.{ℕ, ◌<◌}
use mir.Syntax.{w32}
use mir.Facts.{to_z-of_z}
use mir.Val.{SFits}
use lib.IntN.{ℤ}
use lib.ListN.{length}
use Rattle.wire.specs.Bytes.{Bytes}
use Rattle.transducer.specs.Format.{decode, weight_good}
use Rattle.transducer.specs.Accepted.{AcceptedAt}
use Rattle.transducer.specs.Path.{arc}
use Rattle.transducer.specs.Weight.{plus}
use Rattle.transducer.proofs.AcceptedAt.{opened_few, opened_target, opened_weight}
use Rattle.transducer.proofs.Weights.{plus_fits}
use Rattle.steps.specs.Runs.{run_step}
use Rattle.steps.proofs.runs.step_of.Goals as goal

pub overflow_cast-j : goal.overflow_cast-j
overflow_cast-j c =
    let few = opened_few c.args.right.now (λ i. omega (arith, c.type_inv.right i)) c.args.rfirst c.requires.0 in
    omega (arith, c.requires.1 c.if-run.false)

pub pack-requires-2 : goal.pack-requires-2
pack-requires-2 c =
    let a = c.args in
    let bytes : Bytes a.right.now = λ i. omega (arith, c.type_inv.right i) in
    let target = opened_target a.right.now bytes a.rfirst c.requires.0 a.j (c.requires.1 c.if-run.false) in
    let to = c.requires.2 in
    record { left = to.left; right = rw c.arc_of-b.ensures target; filter = to.filter }

-- The sum of the two weights fits 32 bits.
sum_fits : (bs : List ℕ) (first j : ℕ) (weight : ℤ) → Bytes bs → AcceptedAt bs first → j < length (decode bs).arcs → weight_good weight ≡ true
    → SFits w32 (plus weight (arc (decode bs) j).weight)
sum_fits bs first j weight bytes accepted is_in good = plus_fits _ _ good (opened_weight bs bytes first accepted j is_in)

pub overflow_add-result : goal.overflow_add-result
overflow_add-result c =
    let a = c.args in
    let of_run : SFits w32 a.run.weight = search rules in
    let of_arc : SFits w32 c.arc_of-b.result.weight = search rules in
    rw (to_z-of_z of_run, to_z-of_z of_arc, c.arc_of-b.ensures)
    (sum_fits a.right.now a.rfirst a.j a.run.weight (λ i. omega (arith, c.type_inv.right i)) c.requires.0 (c.requires.1 c.if-run.false) c.requires.3)

pub returns : goal.returns
unfolding run_step
returns c =
    let a = c.args in
    let of_run : SFits w32 a.run.weight = search rules in
    let of_arc : SFits w32 c.arc_of-b.result.weight = search rules in
    let fits =
    sum_fits a.right.now a.rfirst a.j a.run.weight (λ i. omega (arith, c.type_inv.right i)) c.requires.0 (c.requires.1 c.if-run.false) c.requires.3 in
    rw (
      to_z-of_z of_run,
      to_z-of_z of_arc,
      c.passed.ensures,
      c.with_right.ensures,
      c.pack-2.ensures,
      c.arc_of-b.ensures,
      c.if-run.false,
      to_z-of_z fits,
    )
