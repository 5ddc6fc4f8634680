-- The heads, the walk, 11 and 12, each with its law in `ComposeSays`; what is written is `write_out`'s.
use Rattle.std.proofs.Common.{arith, refl}
use Rattle.transducer.specs.Format.{decode}
use Rattle.transducer.proofs.Headed.{Headed, headed, head_inside}
use Rattle.transducer.proofs.RoundTrip.{accepted_good}
use Rattle.explore.proofs.Refused.{refused_with}
use Rattle.compose.proofs.ComposeSays.{says_11, says_12, attempted, attempted_same}
use Rattle.compose.proofs.WalkCode.{first_key}
use Rattle.compose.proofs.entry.compose_with_room.Goals.{After-header-l, After-header-r}
use Rattle.compose.proofs.entry.compose_with_room.Goals as goal

-- The two heads.
left_head : (c : After-header-l) → Headed c.args.left.now c.header-l.result
left_head c = headed c.args.left.now (λ i. omega (arith, c.type_inv.left i)) c.requires.0.left_accepted c.header-l.result c.header-l.ensures

right_head : (c : After-header-r) → Headed c.args.right.now c.header-r.result
right_head c = headed c.args.right.now (λ i. omega (arith, c.type_inv.right i)) c.requires.0.right_accepted c.header-r.result c.header-r.ensures

pub header-l-requires : goal.header-l-requires
header-l-requires c = head_inside c.args.left.now (λ i. omega (arith, c.type_inv.left i)) c.requires.0.left_accepted

pub header-r-requires : goal.header-r-requires
header-r-requires c = head_inside c.args.right.now (λ i. omega (arith, c.type_inv.right i)) c.requires.0.right_accepted

pub put_index-requires : goal.put_index-requires
put_index-requires c = let h = left_head (goal.at.put_index-requires c).After-header-l in (h.opened, h.states_are, h.arcs_are, refl)

pub put_index-requires-2 : goal.put_index-requires-2
put_index-requires-2 c = let h = right_head (goal.at.put_index-requires-2 c).After-header-r in (h.opened, h.states_are, h.arcs_are, refl)

pub pack-first-requires : goal.pack-first-requires
pack-first-requires c =
    let g = goal.at.pack-first-requires c in
    record { left = (left_head g.After-header-l).start_below; right = (right_head g.After-header-r).start_below; filter = omega arith }

pub walk_indexed-w-requires-clause-both_indexed : goal.walk_indexed-w-requires-clause-both_indexed
walk_indexed-w-requires-clause-both_indexed c =
    let g = goal.at.walk_indexed-w-requires-clause-both_indexed c in
    record {
      left_good = accepted_good c.args.left.now (λ i. omega (arith, c.type_inv.left i)) c.requires.0.left_accepted;
      left_open = (left_head g.After-header-l).opened;
      left_index = c.put_index.ensures;
      right_good = accepted_good c.args.right.now (λ i. omega (arith, c.type_inv.right i)) c.requires.0.right_accepted;
      right_open = (right_head g.After-header-r).opened;
      right_index = c.put_index-2.ensures;
      right_no_any = c.requires.1;
    }

pub walk_indexed-w-requires-clause-arcs_value : goal.walk_indexed-w-requires-clause-arcs_value
walk_indexed-w-requires-clause-arcs_value c =
    let h = right_head (goal.at.walk_indexed-w-requires-clause-arcs_value c).After-header-r in (h.arcs_are, h.few_arcs)

pub walk_indexed-w-requires-clause-first_value : goal.walk_indexed-w-requires-clause-first_value
walk_indexed-w-requires-clause-first_value c =
    let g = goal.at.walk_indexed-w-requires-clause-first_value c in
    first_key (decode c.args.left.now) (decode c.args.right.now) c.pack-first.result c.header-l.result.start c.header-r.result.start c.pack-first.ensures
    (left_head g.After-header-l).start_is (right_head g.After-header-r).start_is

pub returns-then-w-ne0 : goal.returns-then-w-ne0
returns-then-w-ne0 c =
    let pre = c.requires.0 in
    let tg = accepted_good c.args.left.now (λ i. omega (arith, c.type_inv.left i)) pre.left_accepted in
    let ug = accepted_good c.args.right.now (λ i. omega (arith, c.type_inv.right i)) pre.right_accepted in
    let walk = c.walk_indexed-w in
    let said = walk.ensures in
    attempted _ _ tg ug
    (says_11 _ _ tg ug
    _ _ _ _ _ _ _ _ _ _ (said.full c.if-w-ne0.true) walk.auto.table said.origins_kept said.states_kept (refused_with c.refuse.ensures.answer c.refuse.ensures.zeros))

pub returns-then-arcs-gt-MAX_ARCS : goal.returns-then-arcs-gt-MAX_ARCS
returns-then-arcs-gt-MAX_ARCS c =
    let pre = c.requires.0 in
    let tg = accepted_good c.args.left.now (λ i. omega (arith, c.type_inv.left i)) pre.left_accepted in
    let ug = accepted_good c.args.right.now (λ i. omega (arith, c.type_inv.right i)) pre.right_accepted in
    let walk = c.walk_indexed-w in
    let said = walk.ensures in
    attempted _ _ tg ug
    (says_12 _ _ tg ug
    _ _ _ _ (said.done c.if-w-ne0.false) _ _ _ _ _ _ _ _ c.if-arcs-gt-MAX_ARCS.true walk.auto.table said.origins_kept said.states_kept
    (refused_with c.refuse-then-arcs-gt-MAX_ARCS.ensures.answer c.refuse-then-arcs-gt-MAX_ARCS.ensures.zeros))

pub put_codes-requires : goal.put_codes-requires
put_codes-requires c =
    let h = left_head (goal.at.put_codes-requires c).After-header-l in (c.requires.0.left_accepted, h.finals_are, refl)

pub put_codes-requires-2 : goal.put_codes-requires-2
put_codes-requires-2 c =
    let h = right_head (goal.at.put_codes-requires-2 c).After-header-r in (c.requires.0.right_accepted, h.finals_are, refl)

pub returns : goal.returns
returns c =
    let pre = c.requires.0 in
    let tg = accepted_good c.args.left.now (λ i. omega (arith, c.type_inv.left i)) pre.left_accepted in
    let ug = accepted_good c.args.right.now (λ i. omega (arith, c.type_inv.right i)) pre.right_accepted in
    let walk = c.walk_indexed-w in
    attempted_same _ _ tg ug
    _ _ _ _ _ _ _ _ _ _ walk.auto.table walk.ensures.origins_kept walk.ensures.states_kept c.write_out.ensures
