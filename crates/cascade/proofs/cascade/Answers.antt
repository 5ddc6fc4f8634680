-- One call after the other, each answer with its law in `CascadeSays`; the arrays are as long as applying asks.
use Rattle.std.proofs.Common.{◌≡◌, length, sym, refl, rules, Err}
use Rattle.std.proofs.lemmas.List.{length-take-le}
use Rattle.transducer.specs.Answer.{written}
use Rattle.transducer.proofs.Numbered.{number_some}
use Rattle.lattice.proofs.Called.{applied_in_arrays}
use Rattle.cascade.specs.Entry.{CascadeSays, cascade_refusal}
use Rattle.cascade.proofs.CascadeSays.{not_applied, put_fits, says_uncomposed, made_fits, head_fits, origins_fit, says_traced}
use Rattle.cascade.proofs.cascade.Goals as goal

pub returns-in-Err : goal.returns-in-Err
returns-in-Err c =
    c.unapplied.ensures c.args.left.now c.args.string.now
    (not_applied (λ i. (c.type_inv.left i).fits) (applied_in_arrays _ _ c.in-Err.ensures) (number_some c.in-Err.refusal))

pub slice_bounds-lattice-end : goal.slice_bounds-lattice-end
slice_bounds-lattice-end c = put_fits (λ i. (c.type_inv.left i).fits) (applied_in_arrays _ _ c.in-Ok.ensures) refl

pub slice_bounds-compose-end : goal.slice_bounds-compose-end
slice_bounds-compose-end c =
    sym (length-take-le _ _ (put_fits (λ i. (c.type_inv.left i).fits) (applied_in_arrays _ _ c.in-Ok.ensures) refl))

pub returns-in_err-size : goal.returns-in_err-size
returns-in_err-size c =
    let x = c.args in
    let e = c.in_err-size.field-0.0 in
    let is : c.from_residual.result ≡ Err e = search rules in
    let says : CascadeSays x.left.now x.right.now x.string.now
    (cascade_refusal x.left.now x.right.now x.string.now (length x.table.now) (length x.origins.now) (length x.states.now))
    (written (Err e)) x.table.now c.compose.new.table x.origins.now c.compose.new.origins x.states.now c.compose.new.states =
    says_uncomposed (λ i. (c.type_inv.left i).fits) (applied_in_arrays _ _ c.in-Ok.ensures) refl _ (λ i. (c.type_inv.right i).fits) c.in_err-size.ensures
    (number_some e) in
    rw is says

pub slice_bounds-header-end : goal.slice_bounds-header-end
slice_bounds-header-end c =
    made_fits (λ i. (c.type_inv.left i).fits) (applied_in_arrays _ _ c.in-Ok.ensures) refl _ (λ i. (c.type_inv.right i).fits) c.in_ok-size.ensures refl

pub slice_bounds-header-end-2 : goal.slice_bounds-header-end-2
slice_bounds-header-end-2 c =
    sym (length-take-le _ _
    (made_fits (λ i. (c.type_inv.left i).fits) (applied_in_arrays _ _ c.in-Ok.ensures) refl _ (λ i. (c.type_inv.right i).fits) c.in_ok-size.ensures refl))

pub header-head-requires : goal.header-head-requires
header-head-requires c =
    head_fits (λ i. (c.type_inv.left i).fits) (applied_in_arrays _ _ c.in-Ok.ensures) refl _ (λ i. (c.type_inv.right i).fits) c.in_ok-size.ensures refl

pub trace_left-requires : goal.trace_left-requires
trace_left-requires c =
    origins_fit (λ i. (c.type_inv.left i).fits) (applied_in_arrays _ _ c.in-Ok.ensures) refl _ (λ i. (c.type_inv.right i).fits) c.in_ok-size.ensures refl _
    c.header-head.ensures

pub returns : goal.returns
returns c =
    says_traced (λ i. (c.type_inv.left i).fits) (applied_in_arrays _ _ c.in-Ok.ensures) refl _ (λ i. (c.type_inv.right i).fits) c.in_ok-size.ensures refl _
    c.header-head.ensures _ c.trace_left.ensures
