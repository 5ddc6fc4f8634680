-- One call after the other, each answer with its law in `ReadingsSays`; the arrays are as long as the calls ask.
use Rattle.std.proofs.Common.{◌≡◌, ℕ, List, length, replicate, sym, refl, arith, rules, Err}
use Rattle.std.proofs.lemmas.List.{length-replicate, length-take-le}
use Rattle.std.proofs.lemmas.Result.{err_from_is_err_and}
use Rattle.transducer.specs.Answer.{Written}
use Rattle.transducer.specs.Format.{max_bytes, max_origins, max_states}
use Rattle.transducer.proofs.Numbered.{number_some}
use Rattle.compose.specs.Entry.{ComposeSays, compose_refusal}
use Rattle.compose.proofs.Called.{ComposedCall}
use Rattle.lattice.proofs.Called.{applied_in_arrays}
use Rattle.paths.specs.Answer.{counted}
use Rattle.cascade.specs.Entry.{CascadeCountSays}
use Rattle.cascade.proofs.ReadingsSays.{says_unaccepted, says_unapplied, put_fits, says_uncomposed, made_fits, says_counted}
use Rattle.cascade.proofs.readings.Goals as goal

composed_in_arrays : (xs ys : List ℕ) {r : Written} {a' b' c' : List ℕ}
    → let a : List ℕ = replicate max_bytes 0 in
    let b : List ℕ = replicate max_origins 0 in
    let c : List ℕ = replicate max_states 0 in
    ComposeSays xs ys (compose_refusal xs ys (length a) (length b) (length c)) r a a' b b' c c' → ComposedCall xs ys r a a' b b' c c'
composed_in_arrays xs ys says =
    record {
      table_room = omega (arith, length-replicate {A = ℕ} max_bytes 0);
      origins_room = omega (arith, length-replicate {A = ℕ} max_origins 0);
      states_room = omega (arith, length-replicate {A = ℕ} max_states 0);
      says = says;
    }

pub returns-in_err-ensure_both_accepted : goal.returns-in_err-ensure_both_accepted
returns-in_err-ensure_both_accepted c =
    let x = c.args in
    let e = c.in_err-ensure_both_accepted.field-0.0 in
    let is : c.from_residual.result ≡ Err e = search rules in
    let says : CascadeCountSays x.left.now x.right.now x.string.now (counted (Err e)) =
    says_unaccepted x.left.now x.right.now x.string.now _ c.in_err-ensure_both_accepted.ensures (number_some e) in
    rw is says

pub returns-in_err-len : goal.returns-in_err-len
returns-in_err-len c =
    let x = c.args in
    let e = c.in_err-len.field-0.0 in
    let is : c.from_residual-in_err-len.result ≡ Err e = search rules in
    let says : CascadeCountSays x.left.now x.right.now x.string.now (counted (Err e)) =
    says_unapplied _ _ _ (λ i. (c.type_inv.left i).fits) (λ i. (c.type_inv.right i).fits) (sym c.in_ok-ensure_both_accepted.ensures)
    (applied_in_arrays _ _ c.in_err-len.ensures) (number_some e) in
    rw is says

pub slice_bounds-lattice-end : goal.slice_bounds-lattice-end
slice_bounds-lattice-end c =
    put_fits _ _ _ (λ i. (c.type_inv.left i).fits) (λ i. (c.type_inv.right i).fits) (sym c.in_ok-ensure_both_accepted.ensures)
    (applied_in_arrays _ _ c.in_ok-len.ensures) refl

pub slice_bounds-compose-end : goal.slice_bounds-compose-end
slice_bounds-compose-end c =
    sym (length-take-le _ _
    (put_fits _ _ _ (λ i. (c.type_inv.left i).fits) (λ i. (c.type_inv.right i).fits) (sym c.in_ok-ensure_both_accepted.ensures)
    (applied_in_arrays _ _ c.in_ok-len.ensures) refl))

pub returns-in_err-size : goal.returns-in_err-size
returns-in_err-size c =
    let x = c.args in
    let e = c.in_err-size.field-0.0 in
    let got = err_from_is_err_and c.from_residual-in_err-size.result c.from_residual-in_err-size.ensures.1 in
    let is : c.from_residual-in_err-size.result ≡ Err e = cc (got.1, got.2) in
    let says : CascadeCountSays x.left.now x.right.now x.string.now (counted (Err e)) =
    says_uncomposed _ _ _ (λ i. (c.type_inv.left i).fits) (λ i. (c.type_inv.right i).fits) (sym c.in_ok-ensure_both_accepted.ensures)
    (applied_in_arrays _ _ c.in_ok-len.ensures) refl
    (composed_in_arrays _ _ c.in_err-size.ensures) (number_some e) in
    rw is says

pub slice_bounds-table-end : goal.slice_bounds-table-end
slice_bounds-table-end c =
    made_fits _ _ _ (λ i. (c.type_inv.left i).fits) (λ i. (c.type_inv.right i).fits) (sym c.in_ok-ensure_both_accepted.ensures)
    (applied_in_arrays _ _ c.in_ok-len.ensures) refl
    (composed_in_arrays _ _ c.in_ok-size.ensures) refl

pub slice_bounds-count-end : goal.slice_bounds-count-end
slice_bounds-count-end c =
    sym (length-take-le _ _
    (made_fits _ _ _ (λ i. (c.type_inv.left i).fits) (λ i. (c.type_inv.right i).fits) (sym c.in_ok-ensure_both_accepted.ensures)
    (applied_in_arrays _ _ c.in_ok-len.ensures) refl
    (composed_in_arrays _ _ c.in_ok-size.ensures) refl))

pub returns : goal.returns
returns c =
    says_counted _ _ _ (λ i. (c.type_inv.left i).fits) (λ i. (c.type_inv.right i).fits) (sym c.in_ok-ensure_both_accepted.ensures)
    (applied_in_arrays _ _ c.in_ok-len.ensures) refl
    (composed_in_arrays _ _ c.in_ok-size.ensures) refl _ c.count.ensures
