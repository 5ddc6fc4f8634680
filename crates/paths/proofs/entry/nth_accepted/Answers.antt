-- `nth_endless`, `nth_none` and `nth_found` say what is answered in each case, and `found` what is told of the path.
use Rattle.std.proofs.Common.{arith, ◌<◌, refl}
use Rattle.transducer.specs.Format.{decode}
use Rattle.paths.specs.Count.{path_count}
use Rattle.paths.specs.Sweep.{at_state}
use Rattle.paths.proofs.Ready.{prepared_ready, sized_read}
use Rattle.paths.proofs.NthSays.{found, start_count, nth_endless, nth_none, nth_found}
use Rattle.paths.proofs.entry.nth_accepted.Goals as goal

pub returns-in_default : goal.returns-in_default
returns-in_default c = nth_endless c.args.table.now c.args.k c.in_default.ensures.0 refl

pub returns-then-all-k : goal.returns-then-all-k
unfolding at_state
returns-then-all-k c =
    let z = sized_read c.args.table.now c.type_inv.table c.requires.0 in
    let is = start_count (decode c.args.table.now) z c.in-Finite.counts c.prepare-shape.result.start c.in-Finite.ensures c.prepare-shape.ensures.shaped.start_is in
    nth_none c.args.table.now c.args.k c.in-Finite.ensures.finite (omega (arith, is, c.if-all-k.true)) refl

pub nth_arcs-len-requires : goal.nth_arcs-len-requires
unfolding at_state
nth_arcs-len-requires c =
    let z = sized_read c.args.table.now c.type_inv.table c.requires.0 in
    let known = c.prepare-shape.ensures in
    let is = start_count (decode c.args.table.now) z c.in-Finite.counts c.prepare-shape.result.start c.in-Finite.ensures known.shaped.start_is in (
      prepared_ready known,
      known.finals,
      c.in-Finite.ensures.settled,
      known.shaped.start_is,
      c.in-Finite.ensures.finite,
      omega (arith, is, c.if-all-k.false),
      c.requires.1,
    )

pub tell-requires : goal.tell-requires
unfolding at_state
tell-requires c =
    let t = decode c.args.table.now in
    let z = sized_read c.args.table.now c.type_inv.table c.requires.0 in
    let known = c.prepare-shape.ensures in
    let is = start_count t z c.in-Finite.counts c.prepare-shape.result.start c.in-Finite.ensures known.shaped.start_is in
    let path = found t z c.args.k c.nth_arcs-len.result c.args.arcs.now c.nth_arcs-len.new.arcs c.in-Finite.ensures.finite
    (omega (arith, is, c.if-all-k.false)) c.requires.1 c.nth_arcs-len.ensures.0 c.nth_arcs-len.ensures.1 in
    (known.shaped.opened, known.shaped.start_is, known.finals, path.inside, path.few, path.accepted, c.requires.2)

pub returns : goal.returns
unfolding at_state
returns c =
    let t = decode c.args.table.now in
    let z = sized_read c.args.table.now c.type_inv.table c.requires.0 in
    let is = start_count t z c.in-Finite.counts c.prepare-shape.result.start c.in-Finite.ensures c.prepare-shape.ensures.shaped.start_is in
    let there : c.args.k < path_count t = omega (arith, is, c.if-all-k.false) in
    nth_found c.args.table.now c.args.k c.in-Finite.ensures.finite there c.nth_arcs-len.ensures.0
    (found t z c.args.k c.nth_arcs-len.result c.args.arcs.now c.nth_arcs-len.new.arcs c.in-Finite.ensures.finite there c.requires.1 c.nth_arcs-len.ensures.0
    c.nth_arcs-len.ensures.1)
    c.tell.ensures
