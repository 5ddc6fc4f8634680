-- The test that two composed states are the same is right. Assumes nothing.
use mathlib.Core.Path.{◌≡◌, refl}
use mathlib.Core.Bool.{true, ◌&&◌}
use lib.Dec.{eqb}
use borrow.Author.Tests.{eqb-true, eq-eqb}
use Rattle.wire.proofs.Bool.{and-true}
use Rattle.explore.specs.Explore.{Decides}
use Rattle.steps.specs.declared.State.{State}
use Rattle.steps.specs.Steps.{same_state}

same_state_sound : (x y : State) → same_state x y ≡ true → x ≡ y
unfolding same_state
same_state_sound x y h =
    let two = and-true (eqb x.left y.left) (eqb x.right y.right && eqb x.filter y.filter) h in
    let more = and-true (eqb x.right y.right) (eqb x.filter y.filter) two.1 in
    let left : x.left ≡ y.left = eqb-true x.left y.left two.0 in
    let right : x.right ≡ y.right = eqb-true x.right y.right more.0 in
    let filter : x.filter ≡ y.filter = eqb-true x.filter y.filter more.1 in
    λ i. record { left = left i; right = right i; filter = filter i }

same_state_complete : (x : State) → same_state x x ≡ true
unfolding same_state
same_state_complete x = rw (eq-eqb x.left x.left refl, eq-eqb x.right x.right refl, eq-eqb x.filter x.filter refl)

pub same_state_decides : Decides same_state
same_state_decides = record { sound = same_state_sound; complete = same_state_complete }
