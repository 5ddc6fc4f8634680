-- Each way out hands its tests to one law. Bytes whose records do not stand where the head says go the long way.
use Rattle.std.proofs.Common.{◌≡◌, ℕ, ◌+◌, ◌*◌, true, false, List, length, sym, ap, ◌∙◌, arith, refl, rules, Err}
use borrow.Author.Tests.{not-true, not-false}
use Rattle.wire.specs.Bytes.{Bytes, four}
use Rattle.transducer.specs.Answer.{Refusal}
use Rattle.transducer.specs.Answer.{number, refusal_in}
use Rattle.transducer.specs.declared.Checks.{Checks}
use Rattle.transducer.specs.Answer.{validation, validated}
use Rattle.transducer.specs.Format.{arcs_at, arc_bytes, head_states, head_arcs, head_finals, head_start, head_good, first_of, refusal}
use Rattle.transducer.specs.Check.{all_checked, diagnosis, head_word}
use Rattle.transducer.specs.Accepted.{ValidationSays}
use Rattle.transducer.proofs.Accept.{refused_head}
use Rattle.transducer.proofs.Tested.{refused_short, refused_head_word, refused_long}
use Rattle.transducer.proofs.Tested.{refused_heads, refusal_checked, validation_light, validation_misplaced}
use Rattle.transducer.proofs.refusals.validate.Goals as goal

-- Where the walk is taken, it says which refusal it is.
misplaced : (bs : List ℕ) → Bytes bs → (e : Refusal) → number e ≡ diagnosis bs → refusal bs ≡ diagnosis bs → ValidationSays bs (validation (Err e))
misplaced bs b e says is = validation_misplaced bs b (validation (Err e)) (says ∙ sym is) refl refl refl refl

pub returns-then-bytes-lt-HEAD_BYTES : goal.returns-then-bytes-lt-HEAD_BYTES
returns-then-bytes-lt-HEAD_BYTES c =
    let bs = c.args.bytes.now in
    let b : Bytes bs = λ i. (c.type_inv.bytes i).fits in
    misplaced bs b _ c.diagnose.ensures (refused_short bs b c.if-bytes-lt-HEAD_BYTES.true)

pub returns-then-u32_at-ne-HEAD_WORD : goal.returns-then-u32_at-ne-HEAD_WORD
returns-then-u32_at-ne-HEAD_WORD c =
    let bs = c.args.bytes.now in
    let b : Bytes bs = λ i. (c.type_inv.bytes i).fits in
    misplaced bs b _ c.diagnose-then-u32_at-ne-HEAD_WORD.ensures
    (refused_head_word bs b (λ e. c.if-u32_at-ne-HEAD_WORD.true (c.u32_at.ensures ∙ e)))

pub returns-then-not-head_ok : goal.returns-then-not-head_ok
unfolding head_states head_arcs head_finals head_start
returns-then-not-head_ok c =
    let bs = c.args.bytes.now in
    let b : Bytes bs = λ i. (c.type_inv.bytes i).fits in
    let tested : c.head_ok.result ≡ head_good (head_states bs) (head_arcs bs) (head_finals bs) (head_start bs) =
    rw (← c.u16_at-n.ensures, ← c.u16_at-m.ensures, ← c.u16_at-f.ensures, ← c.u16_at-start.ensures) c.head_ok.ensures in
    misplaced bs b _ c.diagnose-then-not-head_ok.ensures (refused_head bs (sym tested ∙ c.if-not-head_ok.true))

pub returns-then-bytes-arcs_at : goal.returns-then-bytes-arcs_at
unfolding head_arcs head_finals
returns-then-bytes-arcs_at c =
    let bs = c.args.bytes.now in
    let b : Bytes bs = λ i. (c.type_inv.bytes i).fits in
    misplaced bs b _ c.diagnose-then-bytes-arcs_at.ensures
    (refused_long bs b (λ e. c.if-bytes-arcs_at.true (omega (arith, e, c.arcs_at.ensures, c.u16_at-f.ensures, c.u16_at-m.ensures))))

pub returns-then-not-all : goal.returns-then-not-all
unfolding head_states head_arcs head_finals
returns-then-not-all c =
    let bs = c.args.bytes.now in
    let b : Bytes bs = λ i. (c.type_inv.bytes i).fits in
    let tested : c.check_all-all.result.checks ≡ all_checked bs (head_states bs) (head_arcs bs) (head_finals bs) =
    rw (← c.u16_at-n.ensures, ← c.u16_at-m.ensures, ← c.u16_at-f.ensures) c.check_all-all.ensures.0 in
    misplaced bs b _ c.diagnose-then-not-all.ensures
    (refused_heads bs b (ap (λ (t : Checks). t.heads) (sym tested) ∙ not-true _ c.if-not-all.true))

abbrev first : Checks → ℕ
first t = first_of t.states t.order t.labels t.weights

-- What holds where the records stand at their places: the gathered tests say which of 5 to 8 it is.
gathered : (bs : List ℕ) → Bytes bs → (c : Checks) → four bs 0 ≡ head_word
    → head_good (head_states bs) (head_arcs bs) (head_finals bs) (head_start bs) ≡ true
    → length bs ≡ arcs_at (head_finals bs) + arc_bytes * head_arcs bs → c ≡ all_checked bs (head_states bs) (head_arcs bs) (head_finals bs)
    → c.heads ≡ true → first c ≡ refusal bs
gathered bs b c word good long e heads =
    ap first e ∙ refusal_checked bs b word good long (ap (λ (t : Checks). t.heads) (sym e) ∙ heads)

pub returns-in_err-verdict : goal.returns-in_err-verdict
unfolding head_states head_arcs head_finals head_start
returns-in_err-verdict c =
    let bs = c.args.bytes.now in
    let b : Bytes bs = λ i. (c.type_inv.bytes i).fits in
    let e : Refusal = c.in_err-verdict.field-0.0 in
    let is : c.from_residual.result ≡ Err e = search rules in
    let word : four bs 0 ≡ head_word = sym c.u32_at.ensures ∙ c.if-u32_at-ne-HEAD_WORD.false in
    let good : head_good (head_states bs) (head_arcs bs) (head_finals bs) (head_start bs) ≡ true =
    rw (← c.u16_at-n.ensures, ← c.u16_at-m.ensures, ← c.u16_at-f.ensures, ← c.u16_at-start.ensures) (sym c.head_ok.ensures ∙ c.if-not-head_ok.false) in
    let long : length bs ≡ arcs_at (head_finals bs) + arc_bytes * head_arcs bs =
    rw (← c.u16_at-f.ensures, ← c.u16_at-m.ensures, ← c.arcs_at.ensures) c.if-bytes-arcs_at.false in
    let tested : c.check_all-all.result.checks ≡ all_checked bs (head_states bs) (head_arcs bs) (head_finals bs) =
    rw (← c.u16_at-n.ensures, ← c.u16_at-m.ensures, ← c.u16_at-f.ensures) c.check_all-all.ensures.0 in
    let told : number e ≡ first c.check_all-all.result.checks = c.in_err-verdict.ensures in
    let is_it : number e ≡ refusal bs = told ∙ gathered bs b _ word good long tested (not-false _ c.if-not-all.false) in
    let says : ValidationSays bs (validation (Err e)) = validation_misplaced bs b (validation (Err e)) is_it refl refl refl refl in
    rw is says

pub returns : goal.returns
unfolding head_states head_arcs head_finals head_start
returns c =
    let bs = c.args.bytes.now in
    let b : Bytes bs = λ i. (c.type_inv.bytes i).fits in
    let word : four bs 0 ≡ head_word = sym c.u32_at.ensures ∙ c.if-u32_at-ne-HEAD_WORD.false in
    let good : head_good (head_states bs) (head_arcs bs) (head_finals bs) (head_start bs) ≡ true =
    rw (← c.u16_at-n.ensures, ← c.u16_at-m.ensures, ← c.u16_at-f.ensures, ← c.u16_at-start.ensures) (sym c.head_ok.ensures ∙ c.if-not-head_ok.false) in
    let long : length bs ≡ arcs_at (head_finals bs) + arc_bytes * head_arcs bs =
    rw (← c.u16_at-f.ensures, ← c.u16_at-m.ensures, ← c.arcs_at.ensures) c.if-bytes-arcs_at.false in
    let tested : c.check_all-all.result.checks ≡ all_checked bs (head_states bs) (head_arcs bs) (head_finals bs) =
    rw (← c.u16_at-n.ensures, ← c.u16_at-m.ensures, ← c.u16_at-f.ensures) c.check_all-all.ensures.0 in
    let none : 0 ≡ first c.check_all-all.result.checks = c.in_ok-verdict.ensures in
    validation_light bs b (validated c.check_all-all.result.facts)
    (none ∙ gathered bs b _ word good long tested (not-false _ c.if-not-all.false))
    (rw (← c.u16_at-f.ensures, ← c.u16_at-m.ensures) c.check_all-all.ensures.1)
    (rw (← c.u16_at-f.ensures, ← c.u16_at-m.ensures) c.check_all-all.ensures.2)
    (rw (← c.u16_at-f.ensures, ← c.u16_at-m.ensures) c.check_all-all.ensures.3)
    (rw (← c.u16_at-f.ensures, ← c.u16_at-m.ensures) c.check_all-all.ensures.4)
