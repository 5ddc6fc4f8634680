-- The invariant: the labels before this one stand from `at` on, and `end` is right behind them.
use Rattle.std.proofs.Common.{take}
use Rattle.listing.specs.Text.{Wrote, labels_text}
use Rattle.listing.proofs.text.put_labels.Given as goal

abbrev pub invariant-loop-label : goal.invariant-loop-label
invariant-loop-label l = Wrote l.fn.out l.out l.fn.at l.end (labels_text (take l.label-index l.labels))
