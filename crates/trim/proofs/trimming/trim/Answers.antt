-- One test after the other, each with its law in `TrimSays`; then what `trim_into` leaves.
use Rattle.std.proofs.Common.{◌≡◌, length, refl, sym, arith, rules, Err}
use Rattle.wire.proofs.Bool.{never}
use Rattle.transducer.specs.Answer.{written}
use Rattle.transducer.proofs.Numbered.{number_some}
use Rattle.reach.proofs.Sized.{slice_bytes}
use Rattle.trim.specs.TrimEntry.{TrimSays, trim_refusal}
use Rattle.trim.proofs.TrimSays.{says_bad, says_short_table, says_short_origins, says_trimmed, trims_short}
use Rattle.trim.proofs.trimming.trim.Goals as goal

pub returns-in_err-ensure_accepted : goal.returns-in_err-ensure_accepted
returns-in_err-ensure_accepted c =
    let x = c.args in
    let e = c.in_err-ensure_accepted.field-0.0 in
    let is : c.from_residual.result ≡ Err e = search rules in
    let says : TrimSays x.table.now (trim_refusal x.table.now (length x.out.now) (length x.origins.now))
    (written (Err e)) x.out.now x.out.now x.origins.now x.origins.now =
    says_bad c.in_err-ensure_accepted.ensures (number_some e) refl in
    rw is says

pub returns-then-out-lt-MAX_BYTES : goal.returns-then-out-lt-MAX_BYTES
returns-then-out-lt-MAX_BYTES c = says_short_table c.in_ok-ensure_accepted.ensures refl c.if-out-lt-MAX_BYTES.true refl

pub returns-then-origins-lt-MAX_ARCS : goal.returns-then-origins-lt-MAX_ARCS
returns-then-origins-lt-MAX_ARCS c =
    says_short_origins c.in_ok-ensure_accepted.ensures refl c.if-out-lt-MAX_BYTES.false c.if-origins-lt-MAX_ARCS.true refl

pub trim_into-len-requires : goal.trim_into-len-requires
trim_into-len-requires c =
    (sym c.in_ok-ensure_accepted.ensures, c.if-out-lt-MAX_BYTES.false, c.if-origins-lt-MAX_ARCS.false, λ e. never e)

pub overflow_cast-result : goal.overflow_cast-result
overflow_cast-result c =
    omega (arith, trims_short c.args.table.now (slice_bytes _ c.type_inv.table) (sym c.in_ok-ensure_accepted.ensures) c.trim_into-len.ensures)

pub returns : goal.returns
returns c =
    says_trimmed (sym c.in_ok-ensure_accepted.ensures) c.if-out-lt-MAX_BYTES.false c.if-origins-lt-MAX_ARCS.false c.trim_into-len.ensures
