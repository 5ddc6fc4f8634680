-- The head, the walk, 11 and 12, the lattice before trimming, what trimming leaves and its origins, each with its law in `AppliedWritten`.
use Rattle.std.proofs.Common.{◌≤◌, ◌∙◌, refl, arith, length}
use Rattle.wire.specs.Bytes.{cleared}
use Rattle.transducer.specs.Format.{max_bytes}
use Rattle.transducer.proofs.Headed.{headed, headed_opened, head_inside}
use Rattle.transducer.proofs.RoundTrip.{accepted_good}
use Rattle.explore.proofs.Refused.{refused_with}
use Rattle.lattice.proofs.AppliedWritten.{says_11, says_12, made, ends_inside, bytes_accepted, bytes_accessible}
use Rattle.lattice.proofs.AppliedWritten.{len_small, traceable, says_lattice}
use Rattle.lattice.proofs.Symbols.{string_short}
use Rattle.lattice.proofs.applying.apply_into.Goals as goal

pub header-head-requires : goal.header-head-requires
header-head-requires c = head_inside c.args.bytes.now (λ i. (c.type_inv.bytes i).fits) c.requires.accepted

pub arcs_at-first-requires : goal.arcs_at-first-requires
arcs_at-first-requires c =
    omega (arith, (headed c.args.bytes.now (λ i. (c.type_inv.bytes i).fits) c.requires.accepted c.header-head.result c.header-head.ensures).few_finals)

pub put_index-requires : goal.put_index-requires
put_index-requires c =
    let h = headed c.args.bytes.now (λ i. (c.type_inv.bytes i).fits) c.requires.accepted c.header-head.result c.header-head.ensures in
    (headed_opened c.args.bytes.now c.header-head.result c.arcs_at-first.result h c.arcs_at-first.ensures, h.states_are, h.arcs_are, refl)

pub walk_behind-w-requires-clause-good : goal.walk_behind-w-requires-clause-good
walk_behind-w-requires-clause-good c = accepted_good c.args.bytes.now (λ i. (c.type_inv.bytes i).fits) c.requires.accepted

pub walk_behind-w-requires-clause-applicable : goal.walk_behind-w-requires-clause-applicable
walk_behind-w-requires-clause-applicable c =
    let h = headed c.args.bytes.now (λ i. (c.type_inv.bytes i).fits) c.requires.accepted c.header-head.result c.header-head.ensures in (
      record {
        good = c.requires.good;
        no_any_says = c.requires.no_any_says;
        opened = headed_opened c.args.bytes.now c.header-head.result c.arcs_at-first.result h c.arcs_at-first.ensures;
        indexed = c.put_index.ensures;
      },
      h.start_is,
    )

pub returns-then-w-ne0 : goal.returns-then-w-ne0
returns-then-w-ne0 c =
    let said = c.walk_behind-w.ensures in
    says_11 _ _ (λ i. (c.type_inv.bytes i).fits) c.requires.accepted c.requires.good (said.full c.if-w-ne0.true) c.walk_behind-w.auto.table said.states_kept (refused_with c.refuse.ensures.answer c.refuse.ensures.zeros)

pub returns-then-m-gt-MAX_ARCS : goal.returns-then-m-gt-MAX_ARCS
returns-then-m-gt-MAX_ARCS c =
    let said = c.walk_behind-w.ensures in
    says_12 _ _ (λ i. (c.type_inv.bytes i).fits) c.requires.accepted c.requires.good (said.done c.if-w-ne0.false) c.if-m-gt-MAX_ARCS.true c.walk_behind-w.auto.table
    said.states_kept (refused_with c.refuse-then-m-gt-MAX_ARCS.ensures.answer c.refuse-then-m-gt-MAX_ARCS.ensures.zeros)

pub put_codes-requires : goal.put_codes-requires
put_codes-requires c =
    let h = headed c.args.bytes.now (λ i. (c.type_inv.bytes i).fits) c.requires.accepted c.header-head.result c.header-head.ensures in
    (c.requires.accepted, h.finals_are, refl)

pub overflow_cast-string : goal.overflow_cast-string
overflow_cast-string c = omega (arith, string_short c.args.string.now c.requires.good)

pub trim_behind-len-requires : goal.trim_behind-len-requires
trim_behind-len-requires c =
    let z =
    made (λ i. (c.type_inv.bytes i).fits) c.requires.accepted c.requires.good (c.walk_behind-w.ensures.done c.if-w-ne0.false) c.if-m-gt-MAX_ARCS.false
    c.put_codes.ensures c.close-from.ensures in
    let inside = ends_inside z in (
      record {
        inside = omega (arith, inside.0, inside.1);
        accepted = bytes_accepted z;
        accessible = bytes_accessible z;
        lattice_long = omega (arith, c.close-from.auto.table, c.walk_behind-w.auto.table, c.requires.lattice_long);
        origins_long = c.requires.origins_long;
      },
      omega (arith, c.if-m-gt-MAX_ARCS.false),
    )

pub trace-requires : goal.trace-requires
trace-requires c =
    let z =
    made (λ i. (c.type_inv.bytes i).fits) c.requires.accepted c.requires.good (c.walk_behind-w.ensures.done c.if-w-ne0.false) c.if-m-gt-MAX_ARCS.false
    c.put_codes.ensures c.close-from.ensures in
    let room : max_bytes ≤ length c.close-from.new.table = omega (arith, c.close-from.auto.table, c.walk_behind-w.auto.table, c.requires.lattice_long) in
    traceable z room c.requires.origins_long c.trim_behind-len.ensures c.u16_at-kept.ensures

pub overflow_cast-result : goal.overflow_cast-result
overflow_cast-result c =
    let z =
    made (λ i. (c.type_inv.bytes i).fits) c.requires.accepted c.requires.good (c.walk_behind-w.ensures.done c.if-w-ne0.false) c.if-m-gt-MAX_ARCS.false
    c.put_codes.ensures c.close-from.ensures in
    let room : max_bytes ≤ length c.close-from.new.table = omega (arith, c.close-from.auto.table, c.walk_behind-w.auto.table, c.requires.lattice_long) in
    omega (arith, len_small z room c.requires.origins_long c.trim_behind-len.ensures)

pub returns : goal.returns
unfolding cleared
returns c =
    let z =
    made (λ i. (c.type_inv.bytes i).fits) c.requires.accepted c.requires.good (c.walk_behind-w.ensures.done c.if-w-ne0.false) c.if-m-gt-MAX_ARCS.false
    c.put_codes.ensures c.close-from.ensures in
    let room : max_bytes ≤ length c.close-from.new.table = omega (arith, c.close-from.auto.table, c.walk_behind-w.auto.table, c.requires.lattice_long) in
    says_lattice z room c.requires.origins_long c.trim_behind-len.ensures c.u16_at-kept.ensures (c.close-from.auto.table ∙ c.walk_behind-w.auto.table)
    c.walk_behind-w.ensures.states_kept c.trace.ensures c.clear.ensures
