-- One test after the other, each with its law in `WriteSays`; then stores, one behind the other, that the last law puts together.
use Rattle.std.proofs.Common.{◌≡◌, true, sym, ◌∙◌, arith, rules, refl, Err, length}
use Rattle.wire.specs.Bytes.{cleared}
use Rattle.transducer.specs.Format.{head_good}
use Rattle.transducer.specs.Answer.{written}
use Rattle.transducer.proofs.Good.{head_range}
use Rattle.transducer.proofs.Numbered.{number_some}
use Rattle.codec.specs.Entry.{WriteSays, write_refusal, given}
use Rattle.codec.proofs.WriteSays.{Enough, says_3, says_4_states, says_4_weights, says_4_fields, says_4_arc_weights, says_content, says_10, says_all}
use Rattle.codec.proofs.writing.write.Goals as goal

pub returns-then-not-head_ok : goal.returns-then-not-head_ok
returns-then-not-head_ok c = says_3 _ _ _ _ _ _ _ _ _ (sym c.head_ok.ensures ∙ c.if-not-head_ok.true) _ refl

pub returns-then-final_states-finals : goal.returns-then-final_states-finals
returns-then-final_states-finals c =
    says_4_states _ _ _ _ _ _ _ _ _ (sym c.head_ok.ensures ∙ c.if-not-head_ok.false) c.if-final_states-finals.true _ refl

pub returns-then-final_weights-finals : goal.returns-then-final_weights-finals
returns-then-final_weights-finals c =
    says_4_weights _ _ _ _ _ _ _ _ _ (sym c.head_ok.ensures ∙ c.if-not-head_ok.false) c.if-final_states-finals.false c.if-final_weights-finals.true _ refl

pub returns-then-fields-arcs : goal.returns-then-fields-arcs
returns-then-fields-arcs c =
    says_4_fields _ _ _ _ _ _ _ _ _ (sym c.head_ok.ensures ∙ c.if-not-head_ok.false) c.if-final_states-finals.false c.if-final_weights-finals.false
    c.if-fields-arcs.true _ refl

pub returns-then-arc_weights-arcs : goal.returns-then-arc_weights-arcs
returns-then-arc_weights-arcs c =
    says_4_arc_weights _ _ _ _ _ _ _ _ _ (sym c.head_ok.ensures ∙ c.if-not-head_ok.false) c.if-final_states-finals.false c.if-final_weights-finals.false
    c.if-fields-arcs.false c.if-arc_weights-arcs.true _ refl

pub returns-in_err-check_content : goal.returns-in_err-check_content
returns-in_err-check_content c =
    let x = c.args in
    let e = c.in_err-check_content.field-0.0 in
    let is : c.from_residual.result ≡ Err e = search rules in
    let good : head_good x.n x.m x.f x.start ≡ true = sym c.head_ok.ensures ∙ c.if-not-head_ok.false in
    let enough : Enough x.f x.m (length x.final_states.now) (length x.final_weights.now) (length x.fields.now) (length x.arc_weights.now) =
    record {
      states = c.if-final_states-finals.false;
      weights = c.if-final_weights-finals.false;
      fields = c.if-fields-arcs.false;
      arc_weights = c.if-arc_weights-arcs.false;
    } in
    let says : WriteSays (given x.n x.m x.f x.start x.final_states.now x.final_weights.now x.fields.now x.arc_weights.now)
    (write_refusal x.n x.m x.f x.start x.final_states.now x.final_weights.now x.fields.now x.arc_weights.now (length x.out.now)) (written (Err e)) x.out.now
    x.out.now = says_content _ _ _ _ _ _ _ _ _ good enough _ (c.in_err-check_content.ensures x.start) (number_some e) _ refl in
    rw is says

pub arcs_at-first-requires : goal.arcs_at-first-requires
arcs_at-first-requires c = omega (arith, head_range c.args.n c.args.m c.args.f c.args.start (sym c.head_ok.ensures ∙ c.if-not-head_ok.false))

pub overflow_cast-n : goal.overflow_cast-n
overflow_cast-n c = omega (arith, head_range c.args.n c.args.m c.args.f c.args.start (sym c.head_ok.ensures ∙ c.if-not-head_ok.false))

pub overflow_cast-m : goal.overflow_cast-m
overflow_cast-m c = omega (arith, head_range c.args.n c.args.m c.args.f c.args.start (sym c.head_ok.ensures ∙ c.if-not-head_ok.false))

pub overflow_cast-f : goal.overflow_cast-f
overflow_cast-f c = omega (arith, head_range c.args.n c.args.m c.args.f c.args.start (sym c.head_ok.ensures ∙ c.if-not-head_ok.false))

pub overflow_cast-start : goal.overflow_cast-start
overflow_cast-start c = omega (arith, head_range c.args.n c.args.m c.args.f c.args.start (sym c.head_ok.ensures ∙ c.if-not-head_ok.false))

pub put_finals-requires : goal.put_finals-requires
put_finals-requires c = omega (arith, head_range c.args.n c.args.m c.args.f c.args.start (sym c.head_ok.ensures ∙ c.if-not-head_ok.false))

pub put_arcs-requires : goal.put_arcs-requires
put_arcs-requires c = omega (arith, head_range c.args.n c.args.m c.args.f c.args.start (sym c.head_ok.ensures ∙ c.if-not-head_ok.false))

pub clear-requires : goal.clear-requires
clear-requires c = omega (arith, head_range c.args.n c.args.m c.args.f c.args.start (sym c.head_ok.ensures ∙ c.if-not-head_ok.false))

pub overflow_cast-result : goal.overflow_cast-result
overflow_cast-result c = omega (arith, head_range c.args.n c.args.m c.args.f c.args.start (sym c.head_ok.ensures ∙ c.if-not-head_ok.false))

pub returns-then-out-lt-MAX_BYTES : goal.returns-then-out-lt-MAX_BYTES
returns-then-out-lt-MAX_BYTES c =
    let x = c.args in
    let good : head_good x.n x.m x.f x.start ≡ true = sym c.head_ok.ensures ∙ c.if-not-head_ok.false in
    let enough : Enough x.f x.m (length x.final_states.now) (length x.final_weights.now) (length x.fields.now) (length x.arc_weights.now) =
    record {
      states = c.if-final_states-finals.false;
      weights = c.if-final_weights-finals.false;
      fields = c.if-fields-arcs.false;
      arc_weights = c.if-arc_weights-arcs.false;
    } in
    says_10 _ _ _ _ _ _ _ _ _ good enough 0 (c.in_ok-check_content.ensures x.start) refl c.if-out-lt-MAX_BYTES.true _ refl

pub returns : goal.returns
unfolding cleared
returns c =
    let x = c.args in
    let good : head_good x.n x.m x.f x.start ≡ true = sym c.head_ok.ensures ∙ c.if-not-head_ok.false in
    let enough : Enough x.f x.m (length x.final_states.now) (length x.final_weights.now) (length x.fields.now) (length x.arc_weights.now) =
    record {
      states = c.if-final_states-finals.false;
      weights = c.if-final_weights-finals.false;
      fields = c.if-fields-arcs.false;
      arc_weights = c.if-arc_weights-arcs.false;
    } in
    says_all _ _ _ _ _ _ _ _ _ good enough 0 (c.in_ok-check_content.ensures x.start) refl c.if-out-lt-MAX_BYTES.false c.arcs_at-first.ensures c.put_head.ensures
    c.put_finals.ensures c.put_arcs.ensures c.clear.ensures
