-- The parts of what is built: its states, its start, its steps and its finals. Assumes nothing.
use mathlib.Core.Path.{◌≡◌, refl, sym}
use mathlib.Core.Bool.{Bool, true}
use mathlib.Core.List.{List}
use Prim.Native.Nat.{ℕ, ◌≤◌, ◌<◌}
use native.Mathlib.Nat.{zero-add}
use lib.ListN.{length, get_or}
use Rattle.transducer.specs.Path.{is_final, final_weight}
use Rattle.transducer.specs.Weight.{Weight}
use Rattle.explore.specs.Explore.{Step, Built, targets, built}
use Rattle.explore.proofs.Member.{get_d_at}
use Rattle.explore.proofs.Numbering.{numbered_some, numbered_first}
use Rattle.explore.proofs.Arcs.{length_arcs_from}
use Rattle.explore.proofs.Finals.{is_final_at, final_weight_at, length_finals_from}

module _ {A O : Type 0} (same : A → A → Bool) (steps : A → List (Step A O)) (final : A → Bool) (weight : A → Weight) (first : A) where
  abbrev b : Built A O
  b = built same steps final weight first

  pub built_start : b.result.start ≡ 0
  unfolding built
  built_start = refl

  pub built_states : b.result.states ≡ length b.states
  unfolding built
  built_states = refl

  pub built_some : 1 ≤ length b.states
  unfolding built
  built_some = numbered_some same (λ x. targets (steps x)) first

  pub built_first : get_or b.states 0 first ≡ first
  unfolding built
  built_first = numbered_first same (λ x. targets (steps x)) first first

  pub built_final : (i : ℕ) → i < length b.states → is_final b.result.finals i ≡ final (get_or b.states i first)
  unfolding built
  built_final i l = rw (zero-add i) at (is_final_at final weight 0 b.states i (get_or b.states i first) (get_d_at b.states i first l))

  pub built_final_weight : (i : ℕ) → i < length b.states → final (get_or b.states i first) ≡ true
      → final_weight b.result.finals i ≡ weight (get_or b.states i first)
  unfolding built
  built_final_weight i l f =
      rw (zero-add i) at (final_weight_at final weight 0 b.states i (get_or b.states i first) (get_d_at b.states i first l) f)

  pub length_steps : length b.steps ≡ length b.result.arcs
  unfolding built
  length_steps = sym (length_arcs_from same b.states steps 0 b.states)

  pub length_finals : length b.result.finals ≤ length b.states
  unfolding built
  length_finals = length_finals_from final weight 0 b.states
