-- The walk by packed states (keys) stays among the states that a lattice may have. Assumes nothing.
use mathlib.Core.Path.{◌≡◌, ap, ◌∙◌}
use mathlib.Core.List.{List}
use Prim.Native.Nat.{ℕ, ◌<◌}
use native.Mathlib.Omega.{arith}
use Rattle.transducer.specs.Format.{max_states, Transducer, Good}
use Rattle.transducer.specs.Path.{arc}
use Rattle.transducer.proofs.RoundTrip.{good_range, good_content}
use Rattle.explore.specs.Explore.{Step}
use Rattle.explore.proofs.Member.{Mem, mem_in}
use Rattle.explore.proofs.ExploredKeys.{Keying}
use Rattle.explore.proofs.Walking.{KeyOf}
use Rattle.lattice.specs.declared.State.{State}
use Rattle.lattice.specs.Apply.{same_state, step, steps, first_state}
use Rattle.lattice.specs.Applying.{one, next, StateIn}
use Rattle.lattice.specs.Pack.{pack, unpacked}
use Rattle.lattice.proofs.AppliedSteps.{empty_step, symbol_step, OfArc, of_empty, of_symbol, ArcStep, step_move}
use Rattle.lattice.proofs.Pack.{unpacked_pack, pack_injective}
use Rattle.lattice.proofs.SameState.{same_state_decides}

module _ (cs : List ℕ) (t : Transducer) (good : Good t) where
  pub state_small : (x : State) → StateIn cs t x → x.state < max_states
  state_small x w = omega (arith, w.state_in, (good_range t good).states)

  pub first_in : StateIn cs t (first_state t)
  first_in = record { position_in = omega arith; state_in = (good_range t good).start }

  pub step_in : (x : State) (s : Step State ℕ) → StateIn cs t x → Mem s (steps cs t x) → StateIn cs t s.target
  unfolding empty_step symbol_step step
  step_in x s w m = on r.made
    where
      r : ArcStep cs t x s
      r = step_move cs t x s (mem_in m)

      low : (arc t r.number).target < t.states
      low = (good_content t good).target r.number r.below

      on : OfArc cs t x r.number (arc t r.number) s → StateIn cs t s.target
      on (of_empty e made) = rw made (record { position_in = w.position_in; state_in = low })
      on (of_symbol h within reads made) = rw made (record { position_in = omega (arith, within); state_in = low })

  pub key_of_in : (key : ℕ) → KeyOf pack (StateIn cs t) key → StateIn cs t (unpacked key)
  key_of_in key k =
      let is : unpacked key ≡ k.state = ap unpacked k.key_is ∙ unpacked_pack k.state (state_small k.state k.within) in
      rw is k.within

  -- Keys stand for the states of the walk.
  pub keying : Keying same_state (steps cs t) (first_state t) pack one (next cs t) (StateIn cs t)
  unfolding next
  keying =
      record {
        decides = same_state_decides;
        injective = λ x y b c e. pack_injective x y (state_small x b) (state_small y c) e;
        first_within = first_in;
        steps_within = step_in;
        next_is = λ x b. rw (unpacked_pack x (state_small x b));
      }
