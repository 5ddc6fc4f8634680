-- The numbers of refusals.
use Rattle.std.proofs.Common.{◌≡◌, arith}
use Rattle.bounds.specs.declared.refusals.Refusal.{Refusal}
use Rattle.bounds.specs.declared.refusals.Refusal.TheVariants.{Framing, Kinds, Head, Counts, States, Order, Labels, Weights, Symbols, Room}
use Rattle.bounds.specs.declared.refusals.Refusal.TheVariants.{ManyStates, ManyArcs, Sums, Endless, NoSuchPath, NoPath, AnyInput, NegativeCycle}
use Rattle.bounds.specs.Refusal.{number}

-- No refusal has the number of none.
pub number_some : (e : Refusal) → number e ≡ 0 → ⊥
number_some Framing h = omega (arith, h)
number_some Kinds h = omega (arith, h)
number_some Head h = omega (arith, h)
number_some Counts h = omega (arith, h)
number_some States h = omega (arith, h)
number_some Order h = omega (arith, h)
number_some Labels h = omega (arith, h)
number_some Weights h = omega (arith, h)
number_some Symbols h = omega (arith, h)
number_some Room h = omega (arith, h)
number_some ManyStates h = omega (arith, h)
number_some ManyArcs h = omega (arith, h)
number_some Sums h = omega (arith, h)
number_some Endless h = omega (arith, h)
number_some NoSuchPath h = omega (arith, h)
number_some NoPath h = omega (arith, h)
number_some AnyInput h = omega (arith, h)
number_some NegativeCycle h = omega (arith, h)
