-- The walk by keys walks the composition: keys stand for its states, and the steps of a key are those of its state. Assumes nothing.
use mathlib.Core.Path.{◌≡◌, refl, sym, ap, subst, ◌∙◌}
use mathlib.Core.List.{List, [], ◌∷◌, map}
use Prim.Native.Nat.{ℕ}
use lib.ListN.{length}
use Rattle.transducer.specs.Format.{Transducer, Good}
use Rattle.explore.specs.Explore.{Step}
use Rattle.explore.specs.Walk.{Keyed, keyed}
use Rattle.explore.proofs.ExploredKeys.{Keying}
use Rattle.explore.proofs.Member.{mem_in}
use Rattle.explore.proofs.Walking.{KeyOf}
use Rattle.steps.specs.declared.Origin.{Origin}
use Rattle.steps.specs.declared.State.{State}
use Rattle.steps.specs.Steps.{same_state, steps, first_state, origin_pair}
use Rattle.steps.specs.Runs.{InBoth, coded}
use Rattle.steps.specs.Packing.{pack, unpacked, Bounded}
use Rattle.compose.specs.Walk.{keyed_step, key_steps}
use Rattle.steps.proofs.Packing.{unpacked_pack, pack_injective}
use Rattle.steps.proofs.Within.{Within, within_bounded, first_within, step_within}
use Rattle.steps.proofs.SameState.{same_state_decides}

pub two_origins : (o : Origin) → length (origin_pair o) ≡ 2
unfolding origin_pair
two_origins o = refl

keyed_steps : (ss : List (Step State Origin)) → map keyed_step (map coded ss) ≡ map (keyed pack origin_pair) ss
unfolding keyed_step coded keyed
keyed_steps [] = refl
keyed_steps (s ∷ ss) = ap (λ (l : List Keyed). keyed pack origin_pair s ∷ l) (keyed_steps ss)

module _ (t u : Transducer) (tg : Good t) (ug : Good u) where
  pub composed_keying : Keying same_state (steps t u) (first_state t u) pack origin_pair (key_steps t u) (Within t u)
  unfolding key_steps
  composed_keying =
      record {
        decides = same_state_decides;
        injective = λ x y v w e. pack_injective x y (within_bounded t u tg ug x v) (within_bounded t u tg ug y w) e;
        first_within = first_within t u tg ug;
        steps_within = λ x s w m. step_within t u tg ug x s w (mem_in m);
        next_is = λ x w. rw (unpacked_pack x (within_bounded t u tg ug x w)) (keyed_steps (steps t u x));
      }

  -- What a stored key tells.
  pub key_inside : (key : ℕ) → KeyOf pack (Within t u) key → InBoth t u (unpacked key)
  key_inside key k =
      let x : State = k.state in
      let is : unpacked key ≡ x = ap unpacked k.key_is ∙ unpacked_pack x (within_bounded t u tg ug x k.within) in
      subst (λ (y : State). InBoth t u y) (sym is) (record { left_in = k.within.left; right_in = k.within.right })

  pub key_bounded : (key : ℕ) → KeyOf pack (Within t u) key → Bounded (unpacked key)
  key_bounded key k =
      let x : State = k.state in
      let b : Bounded x = within_bounded t u tg ug x k.within in
      subst Bounded (sym (ap unpacked k.key_is ∙ unpacked_pack x b)) b
