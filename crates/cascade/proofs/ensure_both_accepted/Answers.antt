-- The first of two refusals that is not 0.
use Rattle.std.proofs.Common.{◌≡◌, sym, ◌∙◌, rules, Err}
use Rattle.transducer.specs.Format.{refusal}
use Rattle.transducer.specs.Answer.{number}
use Rattle.transducer.proofs.Answers.{some_or_else, none_or_else}
use Rattle.transducer.proofs.Numbered.{number_some}
use Rattle.cascade.specs.Entry.{tables_refusal}
use Rattle.cascade.proofs.ensure_both_accepted.Goals as goal

pub returns-in_err-ensure_accepted : goal.returns-in_err-ensure_accepted
unfolding tables_refusal
returns-in_err-ensure_accepted c =
    let e = c.in_err-ensure_accepted.field-0.0 in
    let is : c.from_residual.result ≡ Err e = search rules in
    let first : number e ≡ refusal c.args.left.now = c.in_err-ensure_accepted.ensures in
    let says : number e ≡ tables_refusal c.args.left.now c.args.right.now =
    first ∙ sym (some_or_else (refusal c.args.left.now) (refusal c.args.right.now) (λ none. number_some e (first ∙ none))) in
    rw is says

pub returns : goal.returns
unfolding tables_refusal
returns c =
    c.ensure_accepted-2.ensures ∙ sym (none_or_else (refusal c.args.left.now) (refusal c.args.right.now) (sym c.in_ok-ensure_accepted.ensures))
