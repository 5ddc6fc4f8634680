-- A fold over the arcs. What is left to test, from the tests so far, gives the whole.
use Rattle.transducer.specs.Check.{arcs_checked, arc_word}
use Rattle.transducer.proofs.Checked.{Left}
use Rattle.codec.specs.Entry.{arc_of}
use Rattle.codec.proofs.writing.check_given_arcs.Given as goal

abbrev pub invariant-loop-i : goal.invariant-loop-i
invariant-loop-i l =
    Left (λ k p. arcs_checked k p 1 l.n (λ _. arc_word) (arc_of l.fields l.weights)) l.count 0 1 l.initial.checks l.i l.i l.checks
