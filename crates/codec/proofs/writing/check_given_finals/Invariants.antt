-- A fold over the finals. What is left to test, from the tests so far, gives the whole.
use Rattle.transducer.specs.Check.{finals_checked, final_word}
use Rattle.transducer.proofs.Checked.{Left}
use Rattle.codec.specs.Entry.{final_of}
use Rattle.codec.proofs.writing.check_given_finals.Given as goal

abbrev pub invariant-loop-i : goal.invariant-loop-i
invariant-loop-i l =
    Left (λ k p. finals_checked k p 1 l.n (λ _. final_word) (final_of l.states l.weights)) l.count 0 1 l.initial.checks l.i l.i l.checks
