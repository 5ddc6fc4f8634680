-- The labels of composed steps: none is 65,535 where no left arc is for any symbol. Assumes nothing.
use mathlib.Core.Path.{◌≡◌}
use mathlib.Core.Bool.{true}
use mathlib.Core.List.{Memᴰ as Mem}
use Prim.Native.Nat.{ℕ, ◌<◌}
use native.Mathlib.Omega.{arith}
use lib.ListN.{length}
use Rattle.transducer.specs.Format.{Transducer, any, all_labels_good}
use Rattle.transducer.specs.Path.{arc}
use Rattle.transducer.specs.Each.{passed, has_no_any_input}
use Rattle.explore.specs.Explore.{Step}
use Rattle.steps.specs.declared.Origin.{Origin}
use Rattle.steps.specs.declared.State.{State}
use Rattle.steps.specs.Steps.{left_alone, right_alone, both_step, steps}
use Rattle.transducer.proofs.Fits.{passed_below, named_input}
use Rattle.transducer.proofs.Labels.{Unbarred, arc_unbarred, arc_short}
use Rattle.steps.proofs.Moves.{Move, by_left, by_right, by_both, step_move}

module _ (t u : Transducer) (good_t : all_labels_good t ≡ true) (all : has_no_any_input t ≡ true) (good_u : all_labels_good u ≡ true) where
  left_labels : (i : ℕ) → i < length t.arcs → Unbarred (arc t i).input (arc t i).output
  left_labels i l = arc_unbarred t i good_t l (named_input t all i)

  right_label : (s j : ℕ) → s < any → j < length u.arcs → passed s (arc u j) < any
  right_label s j small l = passed_below s (arc u j) small (arc_short u j good_u l).written

  pub step_unbarred : (x : State) (s : Step State Origin) → Mem s (steps t u x) → Unbarred s.input s.output
  unfolding left_alone right_alone both_step
  step_unbarred x s m = on (step_move t u x s m)
    where
      on : Move t u x s → Unbarred s.input s.output
      on (by_left r) = rw r.made (record { read = (left_labels r.left_arc r.below).read; written = omega arith })
      on (by_right r) = rw r.made (record { read = omega arith; written = right_label 0 r.right_arc (omega arith) r.below })
      on (by_both r) =
          let left = left_labels r.left_arc r.left_below in
          rw r.made
          (record { read = left.read; written = right_label (arc t r.left_arc).output r.right_arc left.written r.right_below })
