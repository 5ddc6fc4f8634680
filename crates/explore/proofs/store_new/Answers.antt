-- `insert` stores a new key, and one that is stored stays: `stored_new` and `stored_old` say so of the keys with that one.
use Rattle.explore.proofs.Recording.{found_new, stored_new, stored_old}
use Rattle.explore.proofs.store_new.Goals as goal

pub returns-then-number-count : goal.returns-then-number-count
returns-then-number-count c = λ xs long is chained.
    let a = c.args in
    let out = c.insert.new in
    let e = c.if-number-count.true in
    stored_new xs a.key a.count a.number long is out.states out.heads out.links e
    (c.insert.ensures.by_index xs long (found_new xs a.key a.count a.number long is e) chained)

pub returns : goal.returns
returns c = λ xs long is chained.
    let a = c.args in
    stored_old xs a.key a.count a.number long is a.states.now a.heads.now a.links.now c.if-number-count.false chained
