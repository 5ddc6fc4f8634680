-- One test after the other, each with its law in `ComposeSays`.
use Rattle.std.proofs.Common.{◌≡◌, sym, ◌∙◌, refl, rules, Err, length}
use Rattle.transducer.specs.Answer.{number, written}
use Rattle.transducer.proofs.Numbered.{number_some}
use Rattle.compose.specs.Entry.{ComposeSays, compose_refusal}
use Rattle.compose.proofs.ComposeSays.{says_left, says_any, says_right, says_table, says_origins, says_states, says_into}
use Rattle.compose.proofs.entry.compose.Goals as goal

pub returns-in_err-l : goal.returns-in_err-l
returns-in_err-l c =
    let x = c.args in
    let e = c.in_err-l.field-0.0 in
    let is : c.from_residual.result ≡ Err e = search rules in
    let says : ComposeSays x.left.now x.right.now
    (compose_refusal x.left.now x.right.now (length x.table.now) (length x.origins.now) (length x.states.now)) (written (Err e))
    x.table.now x.table.now x.origins.now x.origins.now x.states.now x.states.now =
    says_left _ _ _ _ _ (number e) c.in_err-l.ensures.refusal_is (number_some e) _ refl in
    rw is says

pub returns-then-not-no_any_input : goal.returns-then-not-no_any_input
returns-then-not-no_any_input c =
    says_any _ _ _ _ _ (sym c.in_ok-l.ensures.refusal_is) (sym c.no_any_input.ensures ∙ c.if-not-no_any_input.true) _ refl

pub returns-in_err-r : goal.returns-in_err-r
returns-in_err-r c =
    let x = c.args in
    let e = c.in_err-r.field-0.0 in
    let is : c.from_residual-in_err-r.result ≡ Err e = search rules in
    let says : ComposeSays x.left.now x.right.now
    (compose_refusal x.left.now x.right.now (length x.table.now) (length x.origins.now) (length x.states.now)) (written (Err e))
    x.table.now x.table.now x.origins.now x.origins.now x.states.now x.states.now =
    says_right _ _ _ _ _ (sym c.in_ok-l.ensures.refusal_is) (sym c.no_any_input.ensures ∙ c.if-not-no_any_input.false) (number e)
    c.in_err-r.ensures.refusal_is (number_some e) _ refl in
    rw is says

pub returns-then-table-lt-MAX_BYTES : goal.returns-then-table-lt-MAX_BYTES
returns-then-table-lt-MAX_BYTES c =
    says_table _ _ _ _ _ (sym c.in_ok-l.ensures.refusal_is) (sym c.no_any_input.ensures ∙ c.if-not-no_any_input.false) (sym c.in_ok-r.ensures.refusal_is)
    c.if-table-lt-MAX_BYTES.true _ refl

pub returns-then-origins-lt-MAX_ORIGINS : goal.returns-then-origins-lt-MAX_ORIGINS
returns-then-origins-lt-MAX_ORIGINS c =
    says_origins _ _ _ _ _ (sym c.in_ok-l.ensures.refusal_is) (sym c.no_any_input.ensures ∙ c.if-not-no_any_input.false) (sym c.in_ok-r.ensures.refusal_is)
    c.if-table-lt-MAX_BYTES.false c.if-origins-lt-MAX_ORIGINS.true _ refl

pub returns-then-states-lt-MAX_STATES : goal.returns-then-states-lt-MAX_STATES
returns-then-states-lt-MAX_STATES c =
    says_states _ _ _ _ _ (sym c.in_ok-l.ensures.refusal_is) (sym c.no_any_input.ensures ∙ c.if-not-no_any_input.false) (sym c.in_ok-r.ensures.refusal_is)
    c.if-table-lt-MAX_BYTES.false c.if-origins-lt-MAX_ORIGINS.false c.if-states-lt-MAX_STATES.true _ refl

pub returns : goal.returns
returns c =
    says_into _ _ _ _ _ (sym c.in_ok-l.ensures.refusal_is) (sym c.no_any_input.ensures ∙ c.if-not-no_any_input.false) (sym c.in_ok-r.ensures.refusal_is)
    c.if-table-lt-MAX_BYTES.false c.if-origins-lt-MAX_ORIGINS.false c.if-states-lt-MAX_STATES.false _ _ _ _ c.compose_into.ensures
