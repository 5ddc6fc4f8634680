-- The invariant: the lines of the paths below `k` stand from `at` on, and `end` is right behind them.
use Rattle.transducer.specs.Format.{decode}
use Rattle.listing.specs.Text.{Wrote, lines}
use Rattle.listing.proofs.lines.put_paths.Given as goal

abbrev pub invariant-loop-k : goal.invariant-loop-k
invariant-loop-k l = Wrote l.fn.out l.out l.fn.at l.end (lines (decode l.walk.table.now) l.k)
