-- Before the first arc nothing is known, whatever is gathered.
use Rattle.transducer.specs.Weight.{rebate}
use Rattle.transducer.proofs.FastCheck.{fast_checked_first}
use Rattle.transducer.proofs.check.first_run.Goals as goal

pub returns-then-close-end : goal.returns-then-close-end
returns-then-close-end c count e =
    let a = c.args in
    c.run_by_two.ensures a.at count a.floor e (fast_checked_first a.bytes.now a.at count a.n a.each a.floor 0 18446744073709551615 (rebate 0))

pub returns : goal.returns
returns c count e =
    let a = c.args in
    c.run_on.ensures a.at count a.floor e (fast_checked_first a.bytes.now a.at count a.n a.each a.floor 0 0 (rebate 0))
