use Rattle.compose.proofs.WalkCode.{traced_pair, traced_full}
use Rattle.compose.proofs.walking.put_origins.Goals as goal

pub returns-then-arcs-lt-MAX_ARCS : goal.returns-then-arcs-lt-MAX_ARCS
returns-then-arcs-lt-MAX_ARCS c =
    let a = c.args in
    traced_pair a.arcs a.o a.origins.now c.left_origin.result c.right_origin.result c.if-arcs-lt-MAX_ARCS.true c.left_origin.ensures c.right_origin.ensures

pub returns-else-arcs-lt-MAX_ARCS : goal.returns-else-arcs-lt-MAX_ARCS
returns-else-arcs-lt-MAX_ARCS c = traced_full c.args.arcs c.args.o c.args.origins.now c.if-arcs-lt-MAX_ARCS.false
