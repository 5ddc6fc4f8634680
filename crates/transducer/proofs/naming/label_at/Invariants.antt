-- None of the arcs that were passed reads the symbol.
use Rattle.std.proofs.Common.{◌≡◌, ℕ, ◌<◌, ◌≤◌}
use Rattle.transducer.specs.Format.{decode}
use Rattle.transducer.specs.Path.{arc}
use Rattle.transducer.proofs.naming.label_at.Given as goal

abbrev pub invariant-loop-i : goal.invariant-loop-i
invariant-loop-i l = (k : ℕ) → l.fn.from ≤ k → k < l.i → (arc (decode l.fn.bytes) k).input ≡ l.fn.symbol → ⊥
