-- What is left of the search gives the whole.
use Rattle.transducer.proofs.Named.{NameSearch}
use Rattle.transducer.proofs.naming.no_any_among.Given as goal

abbrev pub invariant-loop-i : goal.invariant-loop-i
invariant-loop-i l = NameSearch l.fn.bytes l.fn.at l.fn.count l.i
