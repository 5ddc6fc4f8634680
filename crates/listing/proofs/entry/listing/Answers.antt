-- `says_short` and `says_whole` have the two answers.
use Rattle.listing.proofs.Steps.{says_short, says_whole}
use Rattle.listing.proofs.entry.listing.Goals as goal

pub returns-then-out-lt-LEAST_ROOM : goal.returns-then-out-lt-LEAST_ROOM
returns-then-out-lt-LEAST_ROOM c =
    let x = c.args in
    says_short x.left.now x.right.now x.bytes.now x.out.now c.if-out-lt-LEAST_ROOM.true

pub returns : goal.returns
returns c = says_whole c.if-out-lt-LEAST_ROOM.false c.list_composed.ensures
