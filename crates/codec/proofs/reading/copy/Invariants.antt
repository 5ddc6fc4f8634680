-- A store loop: whatever `load` reads, the first `i` numbers stand at the front, and what lies behind is as it was.
use Rattle.std.proofs.Common.{◌≡◌, ℕ}
use Rattle.codec.proofs.Copy.{NumbersCopied}
use Rattle.codec.proofs.reading.copy.Given as goal

abbrev pub invariant-loop-i : goal.invariant-loop-i
invariant-loop-i g l =
    (value : ℕ → _) → ((place : ℕ) (x : _) → goal.F-post g l.load place x → x ≡ value place) → NumbersCopied value l.at l.step l.initial.out l.out l.i
