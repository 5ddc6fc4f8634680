use Rattle.listing.proofs.lines.put_refusal.Goals as goal

pub returns : goal.returns
returns c = rw c.number.ensures at c.refuse_into-len.ensures
