-- `costs_bad` and `costs_short` say what is refused at once; the rest is answered by `costs_accepted` (`costs_passed`).
use Rattle.std.proofs.Common.{◌≡◌, refl, rules, Err, length}
use Rattle.transducer.specs.Answer.{number}
use Rattle.transducer.proofs.Numbered.{number_some}
use Rattle.distance.specs.Entry.{CostsSay, costs_refusal}
use Rattle.distance.proofs.Answers.{costs_bad, costs_short, costs_passed}
use Rattle.distance.proofs.entry.costs_to_come.Goals as goal

pub returns-in_err-seen : goal.returns-in_err-seen
returns-in_err-seen c =
    let x = c.args in
    let e = c.in_err-seen.field-0.0 in
    let is : c.from_residual.result ≡ Err e = search rules in
    let says : CostsSay x.table.now (costs_refusal x.table.now (length x.cells.now)) (number e) x.cells.now x.cells.now =
    costs_bad x.table.now x.cells.now c.in_err-seen.ensures.refusal_is (number_some e) in
    rw is says

pub returns-then-cells-lt-MAX_STATES : goal.returns-then-cells-lt-MAX_STATES
returns-then-cells-lt-MAX_STATES c =
    costs_short c.args.table.now c.args.cells.now c.in_ok-seen.ensures.refusal_is refl c.if-cells-lt-MAX_STATES.true

pub costs_accepted-requires : goal.costs_accepted-requires
costs_accepted-requires c = (c.in_ok-seen.ensures, c.if-cells-lt-MAX_STATES.false)

pub returns : goal.returns
returns c =
    costs_passed c.args.table.now c.args.cells.now c.in_ok-seen.ensures.refusal_is refl c.if-cells-lt-MAX_STATES.false c.costs_accepted.ensures
