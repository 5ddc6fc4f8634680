-- The finals, 13, that there are too many finals, and what is written, each with its law in `ComposeSays`.
use Rattle.wire.specs.Bytes.{cleared}
use Rattle.std.proofs.Common.{arith, refl, ap}
use Rattle.std.specs.Prelude.{is_ok}
use Rattle.transducer.specs.Format.{arcs_at}
use Rattle.transducer.proofs.RoundTrip.{accepted_good}
use Rattle.explore.proofs.Refused.{refused_with}
use Rattle.compose.proofs.ComposeSays.{attempted, attempted_again, finishable, writable, says_13_arcs, says_13_finals, says_written}
use Rattle.compose.proofs.entry.write_out.Goals.{in_default-via-in-Ok+else-w-eq0, in_default-via-in_default}
use Rattle.compose.proofs.entry.write_out.Goals as goal

pub put_finals-finals-requires : goal.put_finals-finals-requires
put_finals-finals-requires c =
    let pre = c.requires in
    let can = pre.composable in
    let tg = accepted_good c.args.left.now (λ i. omega (arith, c.type_inv.left i)) can.left_accepted in
    let ug = accepted_good c.args.right.now (λ i. omega (arith, c.type_inv.right i)) can.right_accepted in
    let through = pre.walked_through.0 in
    finishable _ _ tg ug
    _ _ _ _ through.told _ through.few_arcs _ _ pre.finals_by_state.0 pre.finals_by_state.1 can.table_long can.states_long

pub returns-in_default : goal.returns-in_default
returns-in_default c =
    let pre = c.requires in
    let can = pre.composable in
    let tg = accepted_good c.args.left.now (λ i. omega (arith, c.type_inv.left i)) can.left_accepted in
    let ug = accepted_good c.args.right.now (λ i. omega (arith, c.type_inv.right i)) can.right_accepted in
    let through = pre.walked_through.0 in
    attempted _ _ tg ug
    (elim c.in_default.branch [
      | in_default-via-in-Ok+else-w-eq0 w ↦
          says_13_arcs _ _ tg ug _ _ _ _ through.told _ through.few_arcs _ _ pre.finals_by_state.0 pre.finals_by_state.1 _ _ _ c.put_finals-finals.ensures
          _ _ _ _ w.if-w-eq0.false (refused_with c.refuse.ensures.answer c.refuse.ensures.zeros)
      | in_default-via-in_default w ↦
          says_13_finals _ _ tg ug _ _ _ _ through.told _ through.few_arcs _ _ pre.finals_by_state.0 pre.finals_by_state.1 _ _ _ c.put_finals-finals.ensures
          _ _ _ _ (ap is_ok w.in_default.is) (refused_with c.refuse.ensures.answer c.refuse.ensures.zeros)
    ])

pub returns-then-room-finals : goal.returns-then-room-finals
returns-then-room-finals c =
    let pre = c.requires in
    let can = pre.composable in
    let tg = accepted_good c.args.left.now (λ i. omega (arith, c.type_inv.left i)) can.left_accepted in
    let ug = accepted_good c.args.right.now (λ i. omega (arith, c.type_inv.right i)) can.right_accepted in
    let through = pre.walked_through.0 in
    let fits =
    writable _ _ tg ug
    _ _ _ _ through.told _ through.few_arcs _ _ pre.finals_by_state.0 pre.finals_by_state.1 _ _ _ c.put_finals-finals.ensures in
    attempted_again _ _ tg ug
    (omega (arith, c.if-room-finals.true, fits.finals_fit))

pub returns : goal.returns
unfolding cleared
returns c =
    let pre = c.requires in
    let can = pre.composable in
    let tg = accepted_good c.args.left.now (λ i. omega (arith, c.type_inv.left i)) can.left_accepted in
    let ug = accepted_good c.args.right.now (λ i. omega (arith, c.type_inv.right i)) can.right_accepted in
    let through = pre.walked_through.0 in
    attempted _ _ tg ug
    (says_written _ _ tg ug
    _ _ _ _ through.told _ through.few_arcs _ _ pre.finals_by_state.0 pre.finals_by_state.1 _ _ _ c.put_finals-finals.ensures (arcs_at c.args.room) _ _ _ _ _
    c.if-w-eq0.true (ap is_ok c.in-Ok.is) can.table_long refl (omega (arith, c.if-room-finals.false))
    c.move_arcs.ensures c.put_head.ensures c.clear.ensures c.clear-2.ensures c.clear-3.ensures)
