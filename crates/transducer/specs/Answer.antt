-- What the calls answer, as numbers: those that C gets. Assumes nothing: these are definitions.
use Rattle.std.specs.Prelude.{Bool, false, ℕ, ℤ, Result, Ok, Err}
pub use Rattle.bounds.specs.declared.refusals.Refusal.{Refusal}
pub use Rattle.bounds.specs.Refusal.{number, refusal_in, value_in}
use Rattle.transducer.specs.declared.Facts.{Facts}
use Rattle.transducer.specs.declared.Head.{Head}
use Rattle.transducer.specs.Format.{min_weight}

-- Of a call that writes bytes: the refusal or 0, then the number of bytes written, 0 on refusal.
pub record Written : Type 0 where
  pub refusal : ℕ
  pub len : ℕ

abbrev pub written : Result ℕ Refusal → Written
written answer = record { refusal = refusal_in answer; len = value_in answer }

-- Of reading: the refusal or 0, then the head's numbers, 0 on refusal.
pub record Header : Type 0 where
  pub refusal : ℕ
  pub states : ℕ
  pub arcs : ℕ
  pub finals : ℕ
  pub start : ℕ

abbrev pub header : Result Head Refusal → Header
header (Ok h) = record { refusal = 0; states = h.states; arcs = h.arcs; finals = h.finals; start = h.start }
header (Err e) = record { refusal = number e; states = 0; arcs = 0; finals = 0; start = 0 }

-- Of validating: the refusal or 0, and facts of the arcs, which are told of accepted bytes alone.
pub record Validation : Type 0 where
  pub refusal : ℕ
  pub least : ℤ
  pub top_sorted : Bool
  pub no_output_epsilon : Bool
  pub no_any_input : Bool

abbrev pub validated : Facts → Validation
validated f =
    record {
      refusal = 0;
      least = f.least;
      top_sorted = f.top_sorted;
      no_output_epsilon = f.no_output_epsilon;
      no_any_input = f.no_any_input;
    }

abbrev pub validation : Result Facts Refusal → Validation
validation (Ok f) = validated f
validation (Err e) =
    record { refusal = number e; least = min_weight; top_sorted = false; no_output_epsilon = false; no_any_input = false }
