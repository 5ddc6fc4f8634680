-- What is left of a run while its steps are taken. Assumes nothing: this is a definition.
use Rattle.std.specs.Prelude.{List, map, ℕ, ◌-◌}
use Rattle.transducer.specs.Format.{Transducer}
use Rattle.explore.specs.Walk.{Keyed}
use Rattle.steps.specs.declared.Run.{Run}
use Rattle.steps.specs.Runs.{run_steps}
use Rattle.compose.specs.Walk.{keyed_step}

-- The steps of a run that are left from right arc j to below `to`.
abbrev pub run_left : (u : Transducer) → Run → (to j : ℕ) → List Keyed
run_left u r to j = map keyed_step (run_steps u r (to - j) j)
