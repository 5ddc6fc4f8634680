-- A call of `apply` that was not refused: its answer, what it was lent, and the same as it was left behind (`-left`); and what is claimed of it.
-- Assumes nothing: these are definitions.
use Rattle.std.specs.Prelude.{◌≡◌, List, ℕ, length, take}
use Rattle.wire.specs.Bytes.{Bytes}
use Rattle.transducer.specs.Answer.{Written}
use Rattle.transducer.specs.Format.{decode}
use Rattle.lattice.specs.Lattice.{ReadsOneToOne}
use Rattle.lattice.specs.ApplyEntry.{apply_refusal, ApplySays}

-- A string (paper 01: a code) applied to a table, answered as the call's contract says and not refused.
pub record Application (string table : List ℕ) : Type 0 where
  pub answer : Written
  pub lattice : List ℕ
  pub lattice_left : List ℕ
  pub origins : List ℕ
  pub origins_left : List ℕ
  pub pairs : List ℕ
  pub pairs_left : List ℕ
  pub says :
      ApplySays string table (apply_refusal string table (length lattice) (length origins) (length pairs)) answer lattice lattice_left origins
      origins_left pairs pairs_left
  pub well : answer.refusal ≡ 0

-- What is handed on: the lattice as left behind, at the length told.
abbrev pub lattice_bytes : {string table : List ℕ} → Application string table → List ℕ
lattice_bytes x = take x.answer.len x.lattice_left

-- The table that it was handed is bytes, which holds of slices of bytes.
pub record Answered (string table : List ℕ) : Type 0 where
  pub bytes : Bytes table
  pub call : Application string table

-- What is claimed: the accepting paths of the lattice handed on stand one to one with those of the table handed in that fit the string, by the origins as
-- they were left behind.
abbrev pub ApplicationClaim : {string table : List ℕ} → Answered string table → Type 0
ApplicationClaim {string} {table} x = ReadsOneToOne string (decode table) (decode (lattice_bytes x.call)) x.call.origins_left
