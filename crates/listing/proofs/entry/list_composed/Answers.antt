-- `compose_refused` has the text of a refusal, and `table-..` what is handed on.
use Rattle.std.proofs.Common.{refl, sym}
use lib.Seq.{length-take-le}
use Rattle.transducer.proofs.Numbered.{number_some}
use Rattle.listing.proofs.Steps.{composing, compose_refused, table_fits, table_accepted, table_listed}
use Rattle.listing.proofs.entry.list_composed.Goals as goal

pub slice_bounds-table-end : goal.slice_bounds-table-end
slice_bounds-table-end c = table_fits c.args.bytes.now (composing c.type_inv.left c.type_inv.right c.in-Ok.ensures) refl

pub slice_bounds-list_applied-end : goal.slice_bounds-list_applied-end
slice_bounds-list_applied-end c =
    let fits = table_fits c.args.bytes.now (composing c.type_inv.left c.type_inv.right c.in-Ok.ensures) refl in
    sym (length-take-le c.in-Ok.len c.compose-composed.new.table fits)

pub list_applied-requires : goal.list_applied-requires
list_applied-requires c = (table_accepted c.args.bytes.now (composing c.type_inv.left c.type_inv.right c.in-Ok.ensures) refl, c.requires)

pub returns-in-Ok : goal.returns-in-Ok
returns-in-Ok c = table_listed c.args.bytes.now (composing c.type_inv.left c.type_inv.right c.in-Ok.ensures) refl c.list_applied.ensures

pub returns-in-Err : goal.returns-in-Err
returns-in-Err c =
    compose_refused c.args.bytes.now (composing c.type_inv.left c.type_inv.right c.in-Err.ensures) (number_some c.in-Err.refusal) c.put_refusal.ensures
