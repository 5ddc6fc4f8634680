-- Where no arc is for any symbol nothing is looked up; else it is the look-up at that label.
use Rattle.steps.proofs.Links.{no_any_none}
use Rattle.steps.proofs.lookup.first_any.Goals as goal

pub returns-then-no_any_input : goal.returns-then-no_any_input
returns-then-no_any_input c = λ from leaving. no_any_none (c.requires.3 c.if-no_any_input.true) leaving
