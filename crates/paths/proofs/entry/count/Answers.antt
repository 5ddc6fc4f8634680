-- `count_bad` says what is refused at once; accepted bytes are counted by `count_accepted` (`count_passed`).
use Rattle.std.proofs.Common.{◌≡◌, refl, rules, Err}
use Rattle.transducer.proofs.Numbered.{number_some}
use Rattle.paths.specs.Answer.{counted}
use Rattle.paths.specs.Entry.{CountSays, count_refusal}
use Rattle.paths.proofs.CountSays.{count_bad, count_passed}
use Rattle.paths.proofs.entry.count.Goals as goal

pub returns-in_err-ensure_accepted : goal.returns-in_err-ensure_accepted
returns-in_err-ensure_accepted c =
    let e = c.in_err-ensure_accepted.field-0.0 in
    let is : c.from_residual.result ≡ Err e = search rules in
    let says : CountSays c.args.table.now (count_refusal c.args.table.now) (counted (Err e)) = count_bad c.in_err-ensure_accepted.ensures (number_some e) in
    rw is says

pub returns : goal.returns
returns c = count_passed c.in_ok-ensure_accepted.ensures refl c.count_accepted.ensures
