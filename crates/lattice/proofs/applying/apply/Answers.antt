-- One test after the other, each with its law in `ApplySays`.
use Rattle.std.proofs.Common.{◌≡◌, sym, refl, rules, length, Err}
use Rattle.transducer.specs.Answer.{written}
use Rattle.transducer.proofs.Numbered.{number_some}
use Rattle.lattice.specs.ApplyEntry.{ApplySays, apply_refusal}
use Rattle.lattice.proofs.ApplySays.{says_bytes, says_string, says_table, says_origins, says_pairs, says_into}
use Rattle.lattice.proofs.applying.apply.Goals as goal

pub returns-in_err-facts : goal.returns-in_err-facts
returns-in_err-facts c =
    let x = c.args in
    let e = c.in_err-facts.field-0.0 in
    let is : c.from_residual.result ≡ Err e = search rules in
    let says : ApplySays x.string.now x.table.now
    (apply_refusal x.string.now x.table.now (length x.lattice.now) (length x.origins.now) (length x.pairs.now))
    (written (Err e)) x.lattice.now x.lattice.now x.origins.now x.origins.now x.pairs.now x.pairs.now =
    says_bytes _ _ _ _ _ _ c.in_err-facts.ensures.refusal_is (number_some e) _ refl in
    rw is says

pub returns-then-not-string_ok : goal.returns-then-not-string_ok
returns-then-not-string_ok c =
    says_string _ _ _ _ _ (sym c.in_ok-facts.ensures.refusal_is) c.if-not-string_ok.ensures _ refl

pub returns-then-lattice-lt-MAX_BYTES : goal.returns-then-lattice-lt-MAX_BYTES
returns-then-lattice-lt-MAX_BYTES c =
    says_table _ _ _ _ _ (sym c.in_ok-facts.ensures.refusal_is) c.if-not-string_ok.ensures c.if-lattice-lt-MAX_BYTES.true _ refl

pub returns-then-origins-lt-MAX_ARCS : goal.returns-then-origins-lt-MAX_ARCS
returns-then-origins-lt-MAX_ARCS c =
    says_origins _ _ _ _ _ (sym c.in_ok-facts.ensures.refusal_is) c.if-not-string_ok.ensures c.if-lattice-lt-MAX_BYTES.false
    c.if-origins-lt-MAX_ARCS.true _ refl

pub returns-then-pairs-lt-MAX_STATES : goal.returns-then-pairs-lt-MAX_STATES
returns-then-pairs-lt-MAX_STATES c =
    says_pairs _ _ _ _ _ (sym c.in_ok-facts.ensures.refusal_is) c.if-not-string_ok.ensures c.if-lattice-lt-MAX_BYTES.false
    c.if-origins-lt-MAX_ARCS.false c.if-pairs-lt-MAX_STATES.true _ refl

pub returns : goal.returns
returns c =
    says_into _ _ _ _ _ (sym c.in_ok-facts.ensures.refusal_is) c.if-not-string_ok.ensures c.if-lattice-lt-MAX_BYTES.false
    c.if-origins-lt-MAX_ARCS.false c.if-pairs-lt-MAX_STATES.false _ _ _ _ c.apply_into.ensures
