-- The test that two lattice states are the same is right. Assumes nothing.
use mathlib.Core.Path.{◌≡◌, refl}
use mathlib.Core.Bool.{true}
use lib.Dec.{eqb}
use borrow.Author.Tests.{eqb-true, eq-eqb}
use Rattle.wire.proofs.Bool.{and-true}
use Rattle.explore.specs.Explore.{Decides}
use Rattle.lattice.specs.declared.State.{State}
use Rattle.lattice.specs.Apply.{same_state}

same_state_sound : (x y : State) → same_state x y ≡ true → x ≡ y
unfolding same_state
same_state_sound x y h =
    let two = and-true (eqb x.position y.position) (eqb x.state y.state) h in
    let position : x.position ≡ y.position = eqb-true x.position y.position two.0 in
    let state : x.state ≡ y.state = eqb-true x.state y.state two.1 in
    λ i. record { position = position i; state = state i }

same_state_complete : (x : State) → same_state x x ≡ true
unfolding same_state
same_state_complete x = rw (eq-eqb x.position x.position refl, eq-eqb x.state x.state refl)

pub same_state_decides : Decides same_state
same_state_decides = record { sound = same_state_sound; complete = same_state_complete }
