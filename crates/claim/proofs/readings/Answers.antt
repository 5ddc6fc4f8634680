-- One call after the other, each answer with its law in `ReadingsSays`; the arrays are as long as the calls ask.
use Rattle.std.proofs.Common.{◌≡◌, ℕ, List, arith, length, replicate, length-take-le, sym, refl, rules, Err}
use Rattle.std.proofs.lemmas.List.{length-replicate}
use Rattle.wire.specs.Bytes.{Bytes}
use Rattle.transducer.specs.Answer.{Written}
use Rattle.transducer.specs.Format.{max_arcs, max_bytes, max_origins, max_states}
use Rattle.transducer.proofs.Numbered.{number_some}
use Rattle.compose.specs.Entry.{compose_refusal, ComposeSays}
use Rattle.compose.proofs.Called.{ComposedCall}
use Rattle.paths.specs.Answer.{counted}
use Rattle.claim.specs.Entry.{ReadingsSays}
use Rattle.claim.proofs.ReadingsSays.{says_uncomposed, made_fits, made_accepted, made_named, says_counted}
use Rattle.claim.proofs.readings.Goals as goal

-- What composing was handed and answered.
composed : (xs ys : List ℕ) {made : Written} {a' b' c' : List ℕ}
    → ComposeSays xs ys
    (compose_refusal xs ys (length {A = ℕ} (replicate max_bytes 0)) (length {A = ℕ} (replicate max_origins 0)) (length {A = ℕ} (replicate max_states 0)))
    made (replicate max_bytes 0) a' (replicate max_origins 0) b' (replicate max_states 0) c'
    → ComposedCall xs ys made (replicate max_bytes 0) a' (replicate max_origins 0) b' (replicate max_states 0) c'
composed xs ys says =
    record {
      table_room = omega (arith, length-replicate {A = ℕ} max_bytes 0);
      origins_room = omega (arith, length-replicate {A = ℕ} max_origins 0);
      states_room = omega (arith, length-replicate {A = ℕ} max_states 0);
      says = says;
    }

pub returns-in_err-size : goal.returns-in_err-size
returns-in_err-size c =
    let x = c.args in
    let left : Bytes x.left.now = λ i. (c.type_inv.left i).fits in
    let right : Bytes x.right.now = λ i. (c.type_inv.right i).fits in
    let e = c.in_err-size.field-0.0 in
    let is : c.from_residual.result ≡ Err e = search rules in
    let says : ReadingsSays x.left.now x.right.now x.string.now (counted (Err e)) =
    says_uncomposed left right (composed x.left.now x.right.now c.in_err-size.ensures) x.string.now (number_some e) in
    rw is says

pub slice_bounds-table-end : goal.slice_bounds-table-end
slice_bounds-table-end c =
    let x = c.args in
    let left : Bytes x.left.now = λ i. (c.type_inv.left i).fits in
    let right : Bytes x.right.now = λ i. (c.type_inv.right i).fits in
    made_fits left right (composed x.left.now x.right.now c.in_ok-size.ensures) refl

pub slice_bounds-count_string-end : goal.slice_bounds-count_string-end
slice_bounds-count_string-end c =
    let x = c.args in
    let left : Bytes x.left.now = λ i. (c.type_inv.left i).fits in
    let right : Bytes x.right.now = λ i. (c.type_inv.right i).fits in
    sym (length-take-le c.in_ok-size.field-0 c.compose.new.table (made_fits left right (composed x.left.now x.right.now c.in_ok-size.ensures) refl))

pub count_string-requires : goal.count_string-requires
count_string-requires c =
    let x = c.args in
    let left : Bytes x.left.now = λ i. (c.type_inv.left i).fits in
    let right : Bytes x.right.now = λ i. (c.type_inv.right i).fits in
    let made = composed x.left.now x.right.now c.in_ok-size.ensures in
    record {
      table = record { accepted = made_accepted left right made refl; no_any_says = λ _. made_named left right made refl };
      lattice_long = omega (arith, length-replicate {A = ℕ} max_bytes 0);
      origins_long = omega (arith, length-replicate {A = ℕ} max_arcs 0);
      pairs_long = omega (arith, length-replicate {A = ℕ} max_states 0);
    }

pub returns-in-Ok : goal.returns-in-Ok
returns-in-Ok c =
    let x = c.args in
    let left : Bytes x.left.now = λ i. (c.type_inv.left i).fits in
    let right : Bytes x.right.now = λ i. (c.type_inv.right i).fits in
    says_counted left right (composed x.left.now x.right.now c.in_ok-size.ensures) refl c.in-Ok.ensures

pub returns-in-Err : goal.returns-in-Err
returns-in-Err c =
    let x = c.args in
    let left : Bytes x.left.now = λ i. (c.type_inv.left i).fits in
    let right : Bytes x.right.now = λ i. (c.type_inv.right i).fits in
    says_counted left right (composed x.left.now x.right.now c.in_ok-size.ensures) refl c.in-Err.ensures
