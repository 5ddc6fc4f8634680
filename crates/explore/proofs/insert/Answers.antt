-- Straight stores: `chained_next` says what they leave, with the bucket's number from what `bucket` ensures.
use Rattle.explore.proofs.Chain.{chained_next}
use Rattle.explore.proofs.insert.Goals as goal

pub returns-clause-by_index : goal.returns-clause-by_index
returns-clause-by_index c = λ xs long new chained.
    let a = c.args in
    chained_next xs a.states.now a.heads.now a.links.now a.count c.bucket-b.result a.key long c.bucket-b.ensures.0 c.requires.0 new chained
