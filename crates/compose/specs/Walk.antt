-- The walk that composes: states as keys, and steps with keys for targets. Assumes nothing: these are definitions.
use Rattle.std.specs.Prelude.{◌≡◌, Bool, true, List, map, ℕ}
use Rattle.transducer.specs.Format.{Transducer, Good, decode}
use Rattle.transducer.specs.Each.{has_no_any_input}
use Rattle.transducer.specs.Accepted.{AcceptedAt, Indexed}
use Rattle.explore.specs.Walk.{Keyed, Sofar, explored}
use Rattle.steps.specs.declared.Step.{Step}
use Rattle.steps.specs.Steps.{steps, first_state, origin_pair}
use Rattle.steps.specs.Lookup.{Lookup}
use Rattle.steps.specs.Packing.{pack, unpacked}
use Rattle.steps.specs.Runs.{coded}
use Rattle.compose.specs.declared.sides.Side.{Side}
use Rattle.compose.specs.declared.sides.Sides.{Sides}

-- A step of the code as the walk by keys takes it, and the steps of the state of a key.
unfoldable pub keyed_step : Step → Keyed
keyed_step s =
    record { target = s.target; input = s.input; output = s.output; weight = s.weight; origins = origin_pair s.origin }

unfoldable pub key_steps : (t u : Transducer) → (key : ℕ) → List Keyed
key_steps t u key = map keyed_step (map coded (steps t u (unpacked key)))

-- What the walk by keys builds.
abbrev pub key_walk : (t u : Transducer) → Sofar
key_walk t u = explored (key_steps t u) (pack (first_state t u))

-- The two transducers that a walk reads.
abbrev pub left_of : Sides → Transducer
left_of s = decode s.left.bytes.now

abbrev pub right_of : Sides → Transducer
right_of s = decode s.right.bytes.now

-- Two accepted transducers with their first-arc indexes; `no_any` where none of the right one's arcs is for any symbol.
pub record BothIndexed (left right : Side) (no_any : Bool) : Type 0 where
  pub left_good : Good (decode left.bytes.now)
  pub left_open : AcceptedAt left.bytes.now left.first
  pub left_index : Indexed (decode left.bytes.now) left.index.now
  pub right_good : Good (decode right.bytes.now)
  pub right_open : AcceptedAt right.bytes.now right.first
  pub right_index : Indexed (decode right.bytes.now) right.index.now
  pub right_no_any : no_any ≡ true → has_no_any_input (decode right.bytes.now) ≡ true

-- Both of them with the look-up of the right one's arcs.
pub record Walkable (s : Sides) : Type 0 where
  pub both : BothIndexed s.left s.right s.no_any_input
  pub right_lookup : Lookup (right_of s) s.heads.now s.chain.now s.next_same_label.now
