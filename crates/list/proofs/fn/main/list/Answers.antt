-- The text lies within the buffer (`says_fits`).
use Rattle.listing.proofs.Steps.{says_fits}
use Rattle.list.proofs.fn.main.list.Goals as goal

pub returns : goal.returns
returns c = says_fits c.listing.ensures
