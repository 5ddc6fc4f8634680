-- `odd_refused` and `apply_refused` have the text of a refusal, and `lattice-..` what is listed.
use Rattle.std.proofs.Common.{refl, sym}
use lib.Seq.{length-take-le}
use Rattle.transducer.specs.Format.{decode}
use Rattle.transducer.proofs.Numbered.{number_some}
use Rattle.listing.proofs.Steps.{odd_refused, applying, apply_refused, lattice_fits, lattice_accepted, lattice_listed}
use Rattle.listing.proofs.entry.list_applied.Goals as goal

pub returns-then-bytes-ne0 : goal.returns-then-bytes-ne0
returns-then-bytes-ne0 c = odd_refused (decode c.args.table.now) c.args.bytes.now c.if-bytes-ne0.true c.put_refusal.ensures

pub slice_bounds-lattice-end : goal.slice_bounds-lattice-end
slice_bounds-lattice-end c =
    lattice_fits (applying c.type_inv.table c.requires.0 c.if-bytes-ne0.false c.load_labels-count.ensures.labels c.in-Ok.ensures) refl

pub slice_bounds-list_into-end : goal.slice_bounds-list_into-end
slice_bounds-list_into-end c =
    let fits = lattice_fits (applying c.type_inv.table c.requires.0 c.if-bytes-ne0.false c.load_labels-count.ensures.labels c.in-Ok.ensures) refl in
    sym (length-take-le c.in-Ok.len c.apply-applied.new.lattice fits)

pub list_into-requires : goal.list_into-requires
list_into-requires c = (
  lattice_accepted (applying c.type_inv.table c.requires.0 c.if-bytes-ne0.false c.load_labels-count.ensures.labels c.in-Ok.ensures) refl,
  c.requires.1,
)

pub returns-in-Ok : goal.returns-in-Ok
returns-in-Ok c =
    lattice_listed (applying c.type_inv.table c.requires.0 c.if-bytes-ne0.false c.load_labels-count.ensures.labels c.in-Ok.ensures) refl c.list_into.ensures

pub returns-in-Err : goal.returns-in-Err
returns-in-Err c =
    apply_refused (applying c.type_inv.table c.requires.0 c.if-bytes-ne0.false c.load_labels-count.ensures.labels c.in-Err.ensures)
    (number_some c.in-Err.refusal) c.put_refusal-in-Err.ensures
