-- `says_bad`, `says_short` and `says_read` say what is answered in each case; what is left is that the records lie within the bytes and the
-- numbers within the buffers.
use Rattle.std.proofs.Common.{ℕ, List, sym, ◌∙◌, arith, rules, refl, ◌≡◌, Err, length}
use Rattle.wire.specs.Bytes.{two, cleared, signed_cleared, filled, signed_filled}
use Rattle.transducer.specs.Format.{weight_at}
use Rattle.transducer.proofs.Offsets.{length_accepted}
use Rattle.codec.proofs.Copy.{copied_stop}
use Rattle.codec.proofs.ReadSays.{Counted, is_bytes, head_counted, short_states, short_weights, short_fields, short_arc_weights, says_bad, says_short, says_read}
use Rattle.transducer.proofs.Numbered.{number_some}
use Rattle.transducer.specs.Answer.{header}
use Rattle.codec.specs.Entry.{ReadSays, read_refusal}
use Rattle.codec.proofs.reading.read.Goals as goal

pub returns-then-final_states-lt-MAX_STATES : goal.returns-then-final_states-lt-MAX_STATES
returns-then-final_states-lt-MAX_STATES c =
    says_short c.in_ok-ensure_accepted.ensures refl (short_states _ _ _ _ c.if-final_states-lt-MAX_STATES.true) refl

pub returns-then-final_weights-lt-MAX_STATES : goal.returns-then-final_weights-lt-MAX_STATES
returns-then-final_weights-lt-MAX_STATES c =
    says_short c.in_ok-ensure_accepted.ensures refl (short_weights _ _ _ _ c.if-final_weights-lt-MAX_STATES.true) refl

pub returns-then-fields-lt-MAX_FIELDS : goal.returns-then-fields-lt-MAX_FIELDS
returns-then-fields-lt-MAX_FIELDS c =
    says_short c.in_ok-ensure_accepted.ensures refl (short_fields _ _ _ _ c.if-fields-lt-MAX_FIELDS.true) refl

pub returns-then-arc_weights-lt-MAX_ARCS : goal.returns-then-arc_weights-lt-MAX_ARCS
returns-then-arc_weights-lt-MAX_ARCS c =
    says_short c.in_ok-ensure_accepted.ensures refl (short_arc_weights _ _ _ _ c.if-arc_weights-lt-MAX_ARCS.true) refl

pub header-head-requires : goal.header-head-requires
header-head-requires c = omega (arith, length_accepted _ (is_bytes c.args.bytes.now c.type_inv.bytes) (sym c.in_ok-ensure_accepted.ensures ∙ refl))

pub arcs_at-first-requires : goal.arcs_at-first-requires
arcs_at-first-requires c = omega (arith, head_counted c.type_inv.bytes c.in_ok-ensure_accepted.ensures refl c.header-head.ensures)

pub copy-requires-clause-room : goal.copy-requires-clause-room
copy-requires-clause-room c = omega (arith, head_counted c.type_inv.bytes c.in_ok-ensure_accepted.ensures refl c.header-head.ensures)

pub copy-requires-clause-loads : goal.copy-requires-clause-loads
copy-requires-clause-loads c =
    λ i h.
    let told : Counted c.args.bytes.now c.header-head.result =
    head_counted c.type_inv.bytes c.in_ok-ensure_accepted.ensures refl c.header-head.ensures in
    search rules

pub copy-requires-clause-within : goal.copy-requires-clause-within
copy-requires-clause-within c = omega (arith, head_counted c.type_inv.bytes c.in_ok-ensure_accepted.ensures refl c.header-head.ensures)

pub clear-requires : goal.clear-requires
clear-requires c = omega (arith, head_counted c.type_inv.bytes c.in_ok-ensure_accepted.ensures refl c.header-head.ensures)

pub copy-requires-2-clause-room : goal.copy-requires-2-clause-room
copy-requires-2-clause-room c = omega (arith, head_counted c.type_inv.bytes c.in_ok-ensure_accepted.ensures refl c.header-head.ensures)

pub copy-requires-2-clause-loads : goal.copy-requires-2-clause-loads
copy-requires-2-clause-loads c =
    λ i h.
    let told : Counted c.args.bytes.now c.header-head.result =
    head_counted c.type_inv.bytes c.in_ok-ensure_accepted.ensures refl c.header-head.ensures in
    search rules

pub copy-requires-2-clause-within : goal.copy-requires-2-clause-within
copy-requires-2-clause-within c = omega (arith, head_counted c.type_inv.bytes c.in_ok-ensure_accepted.ensures refl c.header-head.ensures)

pub clear-requires-2 : goal.clear-requires-2
clear-requires-2 c = omega (arith, head_counted c.type_inv.bytes c.in_ok-ensure_accepted.ensures refl c.header-head.ensures)

pub copy_fields-requires : goal.copy_fields-requires
copy_fields-requires c = omega (arith, head_counted c.type_inv.bytes c.in_ok-ensure_accepted.ensures refl c.header-head.ensures)

pub copy-requires-3-clause-room : goal.copy-requires-3-clause-room
copy-requires-3-clause-room c = omega (arith, head_counted c.type_inv.bytes c.in_ok-ensure_accepted.ensures refl c.header-head.ensures)

pub copy-requires-3-clause-loads : goal.copy-requires-3-clause-loads
copy-requires-3-clause-loads c =
    λ i h.
    let told : Counted c.args.bytes.now c.header-head.result =
    head_counted c.type_inv.bytes c.in_ok-ensure_accepted.ensures refl c.header-head.ensures in
    search rules

pub copy-requires-3-clause-within : goal.copy-requires-3-clause-within
copy-requires-3-clause-within c = omega (arith, head_counted c.type_inv.bytes c.in_ok-ensure_accepted.ensures refl c.header-head.ensures)

pub clear-requires-3 : goal.clear-requires-3
clear-requires-3 c = omega (arith, head_counted c.type_inv.bytes c.in_ok-ensure_accepted.ensures refl c.header-head.ensures)

pub returns : goal.returns
unfolding cleared signed_cleared filled signed_filled weight_at
returns c =
    let bs : List ℕ = c.args.bytes.now in
    let told : Counted bs c.header-head.result = head_counted c.type_inv.bytes c.in_ok-ensure_accepted.ensures refl c.header-head.ensures in
    let states = c.copy.ensures (two bs) (λ place x h. search rules) in
    let final_weights = c.copy-2.ensures (weight_at bs) (λ place x h. search rules) in
    let arc_weights = c.copy-3.ensures (weight_at bs) (λ place x h. search rules) in
    says_read bs (is_bytes bs c.type_inv.bytes) (sym c.in_ok-ensure_accepted.ensures ∙ refl)
    c.if-final_states-lt-MAX_STATES.false
    c.if-final_weights-lt-MAX_STATES.false
    c.if-fields-lt-MAX_FIELDS.false
    c.if-arc_weights-lt-MAX_ARCS.false
    c.header-head.ensures
    c.arcs_at-first.ensures
    (copied_stop (two bs) _ _ _ _ _ (omega arith) c.clear.ensures states)
    (copied_stop (weight_at bs) _ _ _ _ _ (omega arith) c.clear-2.ensures final_weights)
    c.copy_fields.ensures
    (copied_stop (weight_at bs) _ _ _ _ _ (omega arith) c.clear-3.ensures arc_weights)

pub returns-in_err-ensure_accepted : goal.returns-in_err-ensure_accepted
returns-in_err-ensure_accepted c =
    let e = c.in_err-ensure_accepted.field-0.0 in
    let is : c.from_residual.result ≡ Err e = search rules in
    let says : ReadSays c.args.bytes.now
    (read_refusal c.args.bytes.now (length c.args.final_states.now) (length c.args.final_weights.now) (length c.args.fields.now) (length c.args.arc_weights.now))
    (header (Err e)) c.args.final_states.now c.args.final_states.now c.args.final_weights.now c.args.final_weights.now c.args.fields.now c.args.fields.now
    c.args.arc_weights.now c.args.arc_weights.now = says_bad c.in_err-ensure_accepted.ensures (number_some e) refl in
    rw is says
