use mathlib.Core.Path.{refl}
use native.Mathlib.Omega.{arith}
use lib.ListN.{length-replicate}
use Prim.Native.Nat.{ℕ}
use Rattle.transducer.specs.Format.{max_states}
use Rattle.relaxation.proofs.Waiting.{queue_none}
use Rattle.relaxation.proofs.queue.StateQueue.new.Goals as goal

pub invariant_of-result : goal.invariant_of-result
invariant_of-result c = record { lined = queue_none max_states (omega arith) (length-replicate {A = ℕ} max_states 0) refl }
