-- A call of `compose` that was not refused: its answer, what it was lent, and the same as it was left behind (`-left`); and what is claimed of it.
-- Assumes nothing: these are definitions.
use Rattle.std.specs.Prelude.{◌≡◌, List, ℕ, length, take}
use Rattle.wire.specs.Bytes.{Bytes}
use Rattle.transducer.specs.Answer.{Written}
use Rattle.transducer.specs.Format.{decode}
use Rattle.compose.specs.Entry.{compose_refusal, ComposeSays}
use Rattle.compose.specs.Claim.{OneToOne, LeastSums}

-- A composition (paper 01: a join), answered as the call's contract says and not refused.
pub record Composition (left right : List ℕ) : Type 0 where
  pub answer : Written
  pub table : List ℕ
  pub table_left : List ℕ
  pub origins : List ℕ
  pub origins_left : List ℕ
  pub states : List ℕ
  pub states_left : List ℕ
  pub says :
      ComposeSays left right (compose_refusal left right (length table) (length origins) (length states)) answer table table_left origins origins_left
      states states_left
  pub well : answer.refusal ≡ 0

-- What is handed on: the table as left behind, at the length told.
abbrev pub composed_bytes : {left right : List ℕ} → Composition left right → List ℕ
composed_bytes c = take c.answer.len c.table_left

-- What it was handed are bytes, which holds of slices of bytes.
pub record Answered (left right : List ℕ) : Type 0 where
  pub left_bytes : Bytes left
  pub right_bytes : Bytes right
  pub call : Composition left right

-- What is claimed: the accepting paths of the table handed on stand one to one with the pairs of the two transducers handed in, by the origins as they were
-- left behind, and least costs are least sums.
pub record CompositionClaim {left right : List ℕ} (x : Answered left right) : Type 0 where
  pub one_to_one : OneToOne (decode left) (decode right) (decode (composed_bytes x.call)) x.call.origins_left
  pub least_sums : LeastSums (decode left) (decode right) (decode (composed_bytes x.call))
