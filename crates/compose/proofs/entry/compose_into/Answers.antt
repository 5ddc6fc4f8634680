-- The second attempt, should there be one, finds the buffers as long as before, and is the last.
use Rattle.std.proofs.Common.{arith}
use Rattle.transducer.proofs.RoundTrip.{accepted_good}
use Rattle.compose.proofs.ComposeSays.{says_same}
use Rattle.compose.proofs.entry.compose_into.Goals as goal

pub returns : goal.returns
returns c =
    let pre = c.requires.0 in
    let tg = accepted_good c.args.left.now (λ i. omega (arith, c.type_inv.left i)) pre.left_accepted in
    let ug = accepted_good c.args.right.now (λ i. omega (arith, c.type_inv.right i)) pre.right_accepted in
    let made = c.compose_with_room-made.auto in
    says_same _ _ tg ug
    _ _ _ _ _ _ _ _ _ _ made.table made.origins made.states (rw c.unwrap.ensures at c.compose_with_room-whole.ensures.says)
