-- What is prepared of accepted bytes for the calls on paths. Assumes nothing: these are definitions.
use Rattle.std.specs.Prelude.{◌≡◌, ℕ, ◌<◌, ◌≤◌, List, length}
use Rattle.transducer.specs.declared.preparing.Shape.{Shape}
use Rattle.transducer.specs.Format.{max_states, decode, head_finals}
use Rattle.transducer.specs.Accepted.{AcceptedAt, Indexed, FinalsByState}

-- The bytes are accepted and their arcs begin at `first`; the shape has the numbers of their transducer.
pub record Shaped (bs : List ℕ) (shape : Shape) : Type 0 where
  pub opened : AcceptedAt bs shape.first
  pub states_are : shape.states ≡ (decode bs).states
  pub arcs_are : shape.arcs ≡ length (decode bs).arcs
  pub finals_are : shape.finals ≡ head_finals bs
  pub start_is : shape.start ≡ (decode bs).start
  pub few_states : shape.states ≤ max_states
  pub start_below : shape.start < max_states

-- Besides, the transducer's first-arc index and final codes are stored.
pub record Prepared (bs : List ℕ) (shape : Shape) (index codes : List ℕ) : Type 0 where
  pub shaped : Shaped bs shape
  pub indexed : Indexed (decode bs) index
  pub finals : FinalsByState (decode bs) codes
