-- `says_short` and `says_whole` have the two answers.
use Rattle.cascade_listing.proofs.Steps.{says_short, says_whole}
use Rattle.cascade_listing.proofs.list.Goals as goal

pub returns-then-out-lt-LEAST_ROOM : goal.returns-then-out-lt-LEAST_ROOM
returns-then-out-lt-LEAST_ROOM c =
    says_short c.args.left.now c.args.right.now c.args.bytes.now c.args.out.now c.if-out-lt-LEAST_ROOM.true

pub returns : goal.returns
returns c = says_whole c.if-out-lt-LEAST_ROOM.false c.list_cascade.ensures
