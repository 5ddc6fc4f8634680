-- The framing from `at` on is the framing of the whole.
use Rattle.std.proofs.Common.{◌≡◌, ◌-◌, ◌≤◌, length}
use Rattle.transducer.specs.Format.{framed}
use Rattle.transducer.proofs.Records.{framed_at}
use Rattle.transducer.proofs.refusals.framing_ok.Given as goal

abbrev pub invariant-loop-at : goal.invariant-loop-at
invariant-loop-at l = (l.at ≤ length l.fn.bytes) × (framed_at l.fn.bytes l.at ≡ framed l.fn.bytes)

abbrev pub decreases-loop-at : goal.decreases-loop-at
decreases-loop-at l = length l.fn.bytes - l.at
