-- The keys that the chain counts are as many as the finals.
use Rattle.std.proofs.Common.{rules, tests, ◌≡◌, take}
use Rattle.std.specs.List.{count_by}
use Rattle.lattice.proofs.KeyFinals.{key_final, finals_counted}
use Rattle.lattice.proofs.applying.final_count.Goals as goal

pub returns : goal.returns
returns c =
    let keys = take c.args.count c.args.states.now in
    let counted : c.count.result ≡ count_by (key_final c.args.codes.now c.args.last) keys = search (rules, tests) in
    rw (finals_counted c.args.codes.now c.args.last keys) (counted, search rules)
