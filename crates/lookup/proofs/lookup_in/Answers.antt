-- The string is applied and counted, then the lattice's shortest path is told; each answer has its law in `LookupSays`.
use Rattle.std.proofs.Common.{◌≡◌, ◌≤◌, refl, arith, rules, Err, to_z-of_z}
use Rattle.wire.specs.Bytes.{Bytes}
use Rattle.transducer.specs.Format.{decode}
use Rattle.transducer.specs.Weight.{Weight, magnitude}
use Rattle.transducer.proofs.Numbered.{number_some}
use Rattle.transducer.proofs.Weights.{magnitude_fits}
use Rattle.shortest.proofs.FewPaths.{most_cost, small_fits}
use Rattle.lookup.specs.Answer.{lookup_of}
use Rattle.lookup.specs.Lookup.{looked_up}
use Rattle.lookup.proofs.LookupSays.{looked_refused, looked_none, lattice_facts, told_well, told_small, looked_told}
use Rattle.lookup.proofs.lookup_in.Goals as goal

pub returns-in_err-read : goal.returns-in_err-read
returns-in_err-read c =
    let x = c.args in
    let bytes : Bytes x.table.now = λ i. (c.type_inv.table i).fits in
    let e = c.in_err-read.field-0.0 in
    let is : c.from_residual.result ≡ Err e = search rules in
    let says : lookup_of (Err e) ≡ looked_up x.string.now (decode x.table.now) =
    looked_refused _ _ bytes c.requires.lattice_asks.table.accepted _ _ c.in_err-read.ensures (number_some e) _ refl in
    rw is says

pub returns-then-read-eq0 : goal.returns-then-read-eq0
returns-then-read-eq0 c =
    let bytes : Bytes c.args.table.now = λ i. (c.type_inv.table i).fits in
    looked_none _ _ bytes c.requires.lattice_asks.table.accepted _ _ c.in_ok-read.ensures refl c.if-read-eq0.true _ refl

pub shortest_accepted-requires : goal.shortest_accepted-requires
shortest_accepted-requires c =
    let bytes : Bytes c.args.table.now = λ i. (c.type_inv.table i).fits in
    rw c.unvalidated-seen.ensures (
      lattice_facts _ _ bytes c.requires.lattice_asks.table.accepted _ _ c.in_ok-read.ensures refl,
      c.requires.arcs_long,
      c.requires.labels_long,
    )

-- A path was counted, so that one is told.
pub returns-in_err-told : goal.returns-in_err-told
returns-in_err-told c =
    let bytes : Bytes c.args.table.now = λ i. (c.type_inv.table i).fits in
    absurd (number_some c.in_err-told.field-0.0
    (told_well _ _ bytes c.requires.lattice_asks.table.accepted _ _ c.in_ok-read.ensures refl c.if-read-eq0.false _ _ _ _ _ c.in_err-told.ensures))

pub overflow_cast-result : goal.overflow_cast-result
overflow_cast-result c =
    let bytes : Bytes c.args.table.now = λ i. (c.type_inv.table i).fits in
    let cost : Weight = c.in_ok-told.told.cost in
    let small : magnitude cost ≤ most_cost =
    told_small _ _ bytes c.requires.lattice_asks.table.accepted _ _ c.in_ok-read.ensures refl c.if-read-eq0.false _ _ _ _ _ c.in_ok-told.ensures in
    rw (to_z-of_z (magnitude_fits cost (omega (arith, small)))) (small_fits cost small)

pub returns : goal.returns
returns c =
    let bytes : Bytes c.args.table.now = λ i. (c.type_inv.table i).fits in
    let cost : Weight = c.in_ok-told.told.cost in
    let small : magnitude cost ≤ most_cost =
    told_small _ _ bytes c.requires.lattice_asks.table.accepted _ _ c.in_ok-read.ensures refl c.if-read-eq0.false _ _ _ _ _ c.in_ok-told.ensures in
    rw (to_z-of_z (magnitude_fits cost (omega (arith, small))), to_z-of_z (small_fits cost small))
    (looked_told _ _ bytes c.requires.lattice_asks.table.accepted _ _ c.in_ok-read.ensures refl c.if-read-eq0.false _ _ _ _ _ c.in_ok-told.ensures)
