-- The text lies within the buffer (`says_fits`).
use Rattle.cascade_listing.proofs.Steps.{says_fits}
use Rattle.list_cascade.proofs.fn.main.list.Goals as goal

pub returns : goal.returns
returns c = says_fits c.list.ensures
