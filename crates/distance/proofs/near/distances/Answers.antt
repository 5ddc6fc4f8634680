-- All is settled by the sweep, or by the queue over all states, or by the queue over those to which the start leads.
use Rattle.std.proofs.Common.{◌≡◌, ◌∙◌, sym, inl, inr, refl, arith, rules, w32, SFits, to_z, of_z}
use Rattle.std.proofs.lemmas.Int.{to_z-of_z}
use Rattle.wire.specs.Bytes.{Bytes}
use Rattle.transducer.specs.Format.{decode}
use Rattle.reach.proofs.Sized.{Sized, sized}
use Rattle.relax.proofs.EmptyPaths.{begun_nearing, begun_cells, begun_rising, begun_forward}
use Rattle.distance.proofs.Ended.{swept_ends, drained_ends, reached_ends}
use Rattle.distance.proofs.near.distances.Goals as goal
use Rattle.distance.proofs.near.distances.Goals.{then-everywhere-via-then-everywhere, then-everywhere-via-else-everywhere+then-is_ok}

pub is_plain-plain-requires : goal.is_plain-plain-requires
is_plain-plain-requires c = omega (arith, c.requires.0.shaped.states_are, c.requires.0.own.long)

pub sweep_once-requires : goal.sweep_once-requires
sweep_once-requires c =
    let bytes : Bytes c.args.table.now = λ i. (c.type_inv.table i).fits in
    let begun = c.requires.0 in
    let z : Sized (decode c.args.table.now) = sized c.args.table.now bytes begun.shaped.opened.accepted in
    let fits : SFits w32 c.args.seen.least = search rules in
    let back : to_z w32 (of_z w32 c.args.seen.least) ≡ c.args.seen.least = to_z-of_z w32 c.args.seen.least fits in (
      begun.shaped.opened,
      begun.shaped.states_are,
      begun.shaped.arcs_are,
      begun_rising z begun c.requires.1 c.requires.2 (rw back at c.is_plain-plain.ensures),
      rw back (begun_forward z begun c.requires.1 c.requires.2 (rw back at c.can_sweep_by_state-forward.ensures)),
      begun_nearing z begun c.requires.1 c.requires.2,
      begun_cells z begun c.requires.1 c.requires.2,
    )

pub returns-then-not-sweep_once-clause-says : goal.returns-then-not-sweep_once-clause-says
returns-then-not-sweep_once-clause-says c =
    let bytes : Bytes c.args.table.now = λ i. (c.type_inv.table i).fits in
    let z : Sized (decode c.args.table.now) = sized c.args.table.now bytes c.requires.0.shaped.opened.accepted in
    swept_ends (decode c.args.table.now) z _ _ c.args.everywhere c.sweep_once.ensures c.if-not-sweep_once.true

pub drain-drained-requires : goal.drain-drained-requires
drain-drained-requires c =
    let shaped = c.requires.0.shaped in
    (shaped.opened, shaped.states_are, shaped.arcs_are, c.sweep_once.ensures.nearing, c.sweep_once.ensures.cells)

pub returns-then-everywhere-clause-says : goal.returns-then-everywhere-clause-says
returns-then-everywhere-clause-says c =
    let bytes : Bytes c.args.table.now = λ i. (c.type_inv.table i).fits in
    let z : Sized (decode c.args.table.now) = sized c.args.table.now bytes c.requires.0.shaped.opened.accepted in
    let says = drained_ends (decode c.args.table.now) z _ _ refl c.args.everywhere c.drain-drained.ensures.says in
    elim c.then-everywhere.branch [
      | then-everywhere-via-then-everywhere w ↦ says (inl w.if-everywhere.true)
      | then-everywhere-via-else-everywhere+then-is_ok w ↦ says (inr (sym w.is_ok.ensures.value ∙ w.if-is_ok.true))
    ]

pub accessible-reached-requires : goal.accessible-reached-requires
accessible-reached-requires c =
    let shaped = c.requires.0.shaped in
    (shaped.opened, shaped.states_are, shaped.arcs_are, shaped.start_is)

pub drain-requires : goal.drain-requires
drain-requires c =
    let shaped = c.requires.0.shaped in
    (shaped.opened, shaped.states_are, shaped.arcs_are, c.drain-drained.ensures.says.nearing, c.drain-drained.ensures.says.cells)

pub returns-clause-says : goal.returns-clause-says
returns-clause-says c =
    let bytes : Bytes c.args.table.now = λ i. (c.type_inv.table i).fits in
    let z : Sized (decode c.args.table.now) = sized c.args.table.now bytes c.requires.0.shaped.opened.accepted in
    reached_ends (decode c.args.table.now) z _ _ c.accessible-reached.ensures c.args.everywhere c.if-everywhere.false c.drain.ensures.says
