-- The two branches are those of `key_code`.
use Rattle.std.proofs.Common.{arith, sym, ap}
use Rattle.lattice.specs.declared.State.{State}
use Rattle.lattice.proofs.KeyFinals.{code_at_last, code_elsewhere}
use Rattle.lattice.proofs.Pack.{unpacked_small}
use Rattle.lattice.proofs.applying.code_of.Goals as goal

pub bounds-codes-x : goal.bounds-codes-x
bounds-codes-x c = omega (arith, ap (λ (x : State). x.state) c.unpack-x.ensures, unpacked_small c.args.key)

pub returns-then-x-last : goal.returns-then-x-last
returns-then-x-last c =
    sym (code_at_last c.args.codes.now c.args.last c.args.key c.unpack-x.result c.unpack-x.ensures c.if-x-last.true)

pub returns-else-x-last : goal.returns-else-x-last
returns-else-x-last c =
    sym (code_elsewhere c.args.codes.now c.args.last c.args.key c.unpack-x.result c.unpack-x.ensures c.if-x-last.false)
