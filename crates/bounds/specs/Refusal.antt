-- The number of each refusal, and that of an answer. Assumes nothing: these are definitions.
use Rattle.std.specs.Prelude.{ℕ, Result, Ok, Err}
use Rattle.bounds.specs.declared.refusals.Refusal.{Refusal}
use Rattle.bounds.specs.declared.refusals.Refusal.TheVariants.{Framing, Kinds, Head, Counts, States, Order, Labels, Weights, Symbols, Room, ManyStates, ManyArcs, Sums, Endless, NoSuchPath, NoPath, AnyInput, NegativeCycle}

-- The number that C gets.
abbrev pub number : Refusal → ℕ
number Framing = 1
number Kinds = 2
number Head = 3
number Counts = 4
number States = 5
number Order = 6
number Labels = 7
number Weights = 8
number Symbols = 9
number Room = 10
number ManyStates = 11
number ManyArcs = 12
number Sums = 13
number Endless = 14
number NoSuchPath = 15
number NoPath = 16
number AnyInput = 18
number NegativeCycle = 19

-- The number of the refusal that an answer is, 0 if it is none.
abbrev pub refusal_in : {A : Type 0} → Result A Refusal → ℕ
refusal_in (Ok _) = 0
refusal_in (Err e) = number e

-- The number that an answer gives, 0 if it is a refusal.
abbrev pub value_in : Result ℕ Refusal → ℕ
value_in (Ok n) = n
value_in (Err _) = 0
