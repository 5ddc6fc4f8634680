-- `nth_bad` to `nth_short_labels` say what is refused at once; the rest is answered by `nth_accepted` (`nth_passed`).
use Rattle.std.proofs.Common.{◌≡◌, refl, rules, Err, length}
use Rattle.transducer.proofs.Numbered.{number_some}
use Rattle.report.specs.Answer.{told}
use Rattle.paths.specs.Entry.{NthSays, nth_refusal}
use Rattle.paths.proofs.NthSays.{nth_bad, nth_short_arcs, nth_short_labels, nth_passed}
use Rattle.paths.proofs.entry.nth.Goals as goal

pub returns-in_err-ensure_accepted : goal.returns-in_err-ensure_accepted
returns-in_err-ensure_accepted c =
    let x = c.args in
    let e = c.in_err-ensure_accepted.field-0.0 in
    let is : c.from_residual.result ≡ Err e = search rules in
    let says : NthSays x.table.now x.k (nth_refusal x.table.now x.k (length x.arcs.now) (length x.labels.now)) (told (Err e)) x.arcs.now x.arcs.now x.labels.now
    x.labels.now = nth_bad x.table.now x.k c.in_err-ensure_accepted.ensures (number_some e) refl in
    rw is says

pub returns-then-arcs-lt-MAX_PATH : goal.returns-then-arcs-lt-MAX_PATH
returns-then-arcs-lt-MAX_PATH c = nth_short_arcs c.args.table.now c.args.k c.in_ok-ensure_accepted.ensures refl c.if-arcs-lt-MAX_PATH.true refl

pub returns-then-labels-lt-MAX_PATH : goal.returns-then-labels-lt-MAX_PATH
returns-then-labels-lt-MAX_PATH c =
    nth_short_labels c.args.table.now c.args.k c.in_ok-ensure_accepted.ensures refl c.if-arcs-lt-MAX_PATH.false c.if-labels-lt-MAX_PATH.true refl

pub returns : goal.returns
returns c =
    nth_passed c.args.table.now c.args.k c.in_ok-ensure_accepted.ensures refl c.if-arcs-lt-MAX_PATH.false c.if-labels-lt-MAX_PATH.false c.nth_accepted.ensures
