-- The code is the definition.
use mathlib.Core.Path.{refl}
use Rattle.steps.specs.Packing.{pack}
use Rattle.steps.proofs.keys.pack.Goals as goal

pub returns : goal.returns
unfolding pack
returns c = refl
