-- `odd_refused` and `call_refused` have the text of a refusal, and `call-..` what is listed.
use Rattle.std.proofs.Common.{◌≡◌, ℕ, ◌%◌, List, length, take, replicate, length-take-le, sym, refl}
use Rattle.std.proofs.lemmas.List.{length-replicate}
use Rattle.wire.specs.Bytes.{Bytes}
use Rattle.transducer.specs.Answer.{Written}
use Rattle.transducer.specs.Format.{max_states, max_origins, max_bytes}
use Rattle.transducer.proofs.Numbered.{number_some}
use Rattle.cascade.specs.Entry.{cascade_refusal, CascadeSays}
use Rattle.listing.specs.Code.{labels_in, most_loaded}
use Rattle.cascade_listing.proofs.Steps.{Calling, odd_refused, call_refused, call_fits, call_accepted, call_listed}
use Rattle.cascade_listing.proofs.list_cascade.Goals as goal

-- What the cascade was handed and answered.
calling : (xs ys cs s : List ℕ) {r : Written} {a' b' c' : List ℕ} → Bytes xs → Bytes ys → length cs % 2 ≡ 0 → s ≡ take most_loaded (labels_in cs)
    → CascadeSays xs ys s
    (cascade_refusal xs ys s (length {A = ℕ} (replicate max_bytes 0)) (length {A = ℕ} (replicate max_origins 0)) (length {A = ℕ} (replicate max_states 0)))
    r (replicate max_bytes 0) a' (replicate max_origins 0) b' (replicate max_states 0) c'
    → Calling xs ys cs s r (replicate max_bytes 0) a' (replicate max_origins 0) b' (replicate max_states 0) c'
calling xs ys cs s left right even string says =
    record {
      left = left;
      right = right;
      even = even;
      string = string;
      table_room = length-replicate {A = ℕ} max_bytes 0;
      origins_room = length-replicate {A = ℕ} max_origins 0;
      states_room = length-replicate {A = ℕ} max_states 0;
      says = says;
    }

pub returns-then-bytes-ne0 : goal.returns-then-bytes-ne0
returns-then-bytes-ne0 c =
    odd_refused c.args.left.now c.args.right.now c.args.bytes.now c.if-bytes-ne0.true c.refuse_odd.ensures

pub slice_bounds-table-end : goal.slice_bounds-table-end
slice_bounds-table-end c =
    let x = c.args in
    let left : Bytes x.left.now = λ i. (c.type_inv.left i).fits in
    let right : Bytes x.right.now = λ i. (c.type_inv.right i).fits in
    call_fits (calling x.left.now x.right.now x.bytes.now _ left right c.if-bytes-ne0.false c.load_labels-count.ensures.labels c.in-Ok.ensures) refl

pub slice_bounds-list_into-end : goal.slice_bounds-list_into-end
slice_bounds-list_into-end c =
    let x = c.args in
    let left : Bytes x.left.now = λ i. (c.type_inv.left i).fits in
    let right : Bytes x.right.now = λ i. (c.type_inv.right i).fits in
    sym (length-take-le c.in-Ok.len c.cascade-made.new.table
    (call_fits (calling x.left.now x.right.now x.bytes.now _ left right c.if-bytes-ne0.false c.load_labels-count.ensures.labels c.in-Ok.ensures) refl))

pub list_into-requires : goal.list_into-requires
list_into-requires c =
    let x = c.args in
    let left : Bytes x.left.now = λ i. (c.type_inv.left i).fits in
    let right : Bytes x.right.now = λ i. (c.type_inv.right i).fits in (
      call_accepted (calling x.left.now x.right.now x.bytes.now _ left right c.if-bytes-ne0.false c.load_labels-count.ensures.labels c.in-Ok.ensures) refl,
      c.requires,
    )

pub returns-in-Ok : goal.returns-in-Ok
returns-in-Ok c =
    let x = c.args in
    let left : Bytes x.left.now = λ i. (c.type_inv.left i).fits in
    let right : Bytes x.right.now = λ i. (c.type_inv.right i).fits in
    call_listed (calling x.left.now x.right.now x.bytes.now _ left right c.if-bytes-ne0.false c.load_labels-count.ensures.labels c.in-Ok.ensures) refl
    c.list_into.ensures

pub returns-in-Err : goal.returns-in-Err
returns-in-Err c =
    let x = c.args in
    let left : Bytes x.left.now = λ i. (c.type_inv.left i).fits in
    let right : Bytes x.right.now = λ i. (c.type_inv.right i).fits in
    call_refused (calling x.left.now x.right.now x.bytes.now _ left right c.if-bytes-ne0.false c.load_labels-count.ensures.labels c.in-Err.ensures)
    (number_some c.in-Err.refusal) c.put_refusal.ensures
