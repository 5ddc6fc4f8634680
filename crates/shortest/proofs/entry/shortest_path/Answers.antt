-- `shortest_bad` to `shortest_short_labels` say what is refused at once; the rest is answered by `shortest_accepted` (`shortest_passed`).
use Rattle.std.proofs.Common.{◌≡◌, refl, rules, Err, length}
use Rattle.transducer.proofs.Numbered.{number_some}
use Rattle.report.specs.Answer.{told}
use Rattle.shortest.specs.Entry.{ShortestSays, shortest_refusal}
use Rattle.shortest.proofs.Answers.{shortest_bad, shortest_short_arcs, shortest_short_labels, shortest_passed}
use Rattle.shortest.proofs.entry.shortest_path.Goals as goal

pub returns-in_err-seen : goal.returns-in_err-seen
returns-in_err-seen c =
    let x = c.args in
    let e = c.in_err-seen.field-0.0 in
    let is : c.from_residual.result ≡ Err e = search rules in
    let says : ShortestSays x.table.now (shortest_refusal x.table.now (length x.arcs.now) (length x.labels.now)) (told (Err e))
    x.arcs.now x.arcs.now x.labels.now x.labels.now =
    shortest_bad x.table.now c.in_err-seen.ensures.refusal_is (number_some e) refl in
    rw is says

pub returns-then-arcs-lt-MAX_PATH : goal.returns-then-arcs-lt-MAX_PATH
returns-then-arcs-lt-MAX_PATH c =
    shortest_short_arcs c.args.table.now c.in_ok-seen.ensures.refusal_is refl c.if-arcs-lt-MAX_PATH.true refl

pub returns-then-labels-lt-MAX_PATH : goal.returns-then-labels-lt-MAX_PATH
returns-then-labels-lt-MAX_PATH c =
    shortest_short_labels c.args.table.now c.in_ok-seen.ensures.refusal_is refl c.if-arcs-lt-MAX_PATH.false c.if-labels-lt-MAX_PATH.true refl

pub returns : goal.returns
returns c =
    shortest_passed c.args.table.now c.in_ok-seen.ensures.refusal_is refl c.if-arcs-lt-MAX_PATH.false c.if-labels-lt-MAX_PATH.false
    c.shortest_accepted.ensures
